-- `answers::Refusal::check` meets its contract: a condition that holds stops, one that does not lets the call pass.
use Rattle.answers.proofs.Refused.{refuses, lets_pass}
use Rattle.answers.proofs.Refusal.check.Goals as goal

pub returns-then-holds : goal.returns-then-holds
returns-then-holds c = refuses c.args.self c.if-holds.true

pub returns-else-holds : goal.returns-else-holds
returns-else-holds c = lets_pass c.args.self c.if-holds.false
