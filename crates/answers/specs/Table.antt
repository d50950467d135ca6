-- The rows of document 01's table "Numbers the agent sees": for each the condition, and the test with its number.
-- A call's answer lists its tests in the order in which the document has them tested. 9 Digits stands in crate digest_code, whose call alone has digits;
-- 13 to 21 belong to later calls.
use Rattle.std.specs.Prelude.{Bool, not, ◌&&◌, ◌||◌, List, ℕ, ltb, leb, eqb}
use Rattle.theory_counts.specs.Words.{fits}
use Rattle.answers.specs.Answers.{Test, test}

-- 1 Width: w is not 1..32
unfoldable pub bad_width : ℕ → Bool
bad_width w = ltb w 1 || ltb 32 w

abbrev pub width_test : ℕ → Test
width_test w = test 1 (bad_width w)

-- 1 Width, in the byte digest: w is not 8, 16 or 32
unfoldable pub bad_byte_width : ℕ → Bool
bad_byte_width w = not (eqb w 8 || eqb w 16 || eqb w 32)

abbrev pub byte_width_test : ℕ → Test
byte_width_test w = test 1 (bad_byte_width w)

-- 2 Kept: b is 0 or above w
unfoldable pub bad_kept : ℕ → ℕ → Bool
bad_kept w b = eqb b 0 || ltb w b

abbrev pub kept_test : ℕ → ℕ → Test
kept_test w b = test 2 (bad_kept w b)

-- 3 Count: n is not 1..8
unfoldable pub bad_count : ℕ → Bool
bad_count n = ltb n 1 || ltb 8 n

abbrev pub count_test : ℕ → Test
count_test n = test 3 (bad_count n)

-- 4 Long: more words than the most there may be
abbrev pub too_long : ℕ → ℕ → Bool
too_long most words = ltb most words

abbrev pub most_test : ℕ → ℕ → Test
most_test most words = test 4 (too_long most words)

-- 4 Long: more than 65,536 message words, in a stream counting those taken
abbrev pub long_test : ℕ → Test
long_test t = test 4 (too_long 65536 t)

-- 4 Long: a stretch of more than 65,544 words
abbrev pub long_stretch_test : ℕ → Test
long_stretch_test words = test 4 (too_long 65544 words)

-- 4 Long (02, "Eight"): "a row not of t words"
abbrev pub bad_length : ℕ → ℕ → Bool
bad_length t words = not (eqb words t)

abbrev pub length_test : ℕ → ℕ → Test
length_test t words = test 4 (bad_length t words)

-- 5 Key: not as many words as the call asks, t + n for a digest
abbrev pub bad_key : ℕ → ℕ → Bool
bad_key asked words = not (eqb words asked)

abbrev pub key_test : ℕ → ℕ → Test
key_test asked words = test 5 (bad_key asked words)

-- 6 Tray: the output has fewer places than an accepted call would write
abbrev pub small_tray : ℕ → ℕ → Bool
small_tray asked places = ltb places asked

abbrev pub tray_test : ℕ → ℕ → Test
tray_test asked places = test 6 (small_tray asked places)

-- 6 Tray, in a match: either row is not n words
unfoldable pub bad_rows : ℕ → ℕ → ℕ → Bool
bad_rows n first second = not (eqb first n && eqb second n)

abbrev pub match_tray_test : ℕ → ℕ → ℕ → Test
match_tray_test n first second = test 6 (bad_rows n first second)

-- 7 Word: a message or key word is 2^w or more
unfoldable pub bad_words : ℕ → List ℕ → List ℕ → Bool
bad_words w ms ks = not (fits w ms && fits w ks)

abbrev pub word_test : ℕ → List ℕ → List ℕ → Test
word_test w ms ks = test 7 (bad_words w ms ks)

-- 8 State: the state is not fit, by the tests that its own definition lists
abbrev pub state_test : Bool → Test
state_test fit = test 8 (not fit)

-- 10 Peers (02, "Five"): p is not 1..16
unfoldable pub bad_peers : ℕ → Bool
bad_peers p = ltb p 1 || ltb 16 p

abbrev pub peers_test : ℕ → Test
peers_test p = test 10 (bad_peers p)

-- 11 Seed (02, "Seven"): a seed array of no words, or of more than 8
unfoldable pub bad_seed : ℕ → Bool
bad_seed words = ltb words 1 || ltb 8 words

abbrev pub seed_test : ℕ → Test
seed_test words = test 11 (bad_seed words)

-- 12 Place (02, "Eight"): "when the place is t or more"
abbrev pub bad_place : ℕ → ℕ → Bool
bad_place t place = leb t place

abbrev pub place_test : ℕ → ℕ → Test
place_test t place = test 12 (bad_place t place)
