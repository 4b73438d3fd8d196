-- The signature of a text, run by run: it is the OR over the runs up to the next separator, since a run of no bytes sets nothing. And a
-- word's signature from its windows of three bytes: each is a triplet, and the next of those that are ahead, until K positions are set.
-- Assumes nothing.
use mathlib.Core.Path.{◌≡◌, refl, sym, ap, ap₂, ◌∙◌, subst}
use mathlib.Core.Bool.{Bool, true, false, cond, not}
use mathlib.Core.List.{List, [], ◌∷◌, ◌++◌, append-nil, append_assoc}
use Prim.Native.Nat.{ℕ, zero, suc, ◌+◌, ◌-◌, ◌≤◌, ◌<◌}
use native.Mathlib.Omega.{arith}
use native.Mathlib.Numerals.{add-one}
use lib.ListN.{length, get_or, take, drop, length-take, drop_of_length-le}
use lib.Seq.{take-nil, drop-drop, drop-cons}
use lib.Bits.{bit_or, or_zero_r}
use Rattle.std.specs.List.{position_or_len, after_first}
use Rattle.model.specs.Words.{Part, separator, ended, scan, parts_of, bytes_over, words_of, triplet_position, triplets_from, triplets, different, positions_of, set_all, word_signature, or_over, text_signature}
use Rattle.signature.proofs.Bits.{or_assoc}
use Rattle.words.specs.Pass.{Inside, Sets}
use Rattle.words.proofs.Triplets.{triplets_short}
use Rattle.words.proofs.Setting.{sets_none, sets_full}
use Rattle.words.proofs.Covered.{inside_triplets}

-- ---- the words from a byte on

word_none : (F K : ℕ) → word_signature F K [] ≡ 0
unfolding word_signature positions_of triplets different set_all
word_none F K = ap (set_all F) (take-nil K)

-- the OR over a run that has ended, and over what follows; a run of no bytes sets nothing
ended_or : (F K : ℕ) (text : List ℕ) (s n : ℕ) (ps : List Part)
    → or_over F K (bytes_over text (ended s n ps)) ≡ bit_or (word_signature F K (take n (drop s text))) (or_over F K (bytes_over text ps))
unfolding or_over bytes_over ended
ended_or F K text s zero ps = ap (λ (n : ℕ). bit_or n (or_over F K (bytes_over text ps))) (sym (word_none F K))
ended_or F K text s (suc n) ps = refl

-- a run that has n bytes so far ends at the next separator, and the words go on behind that
scan_run : (s n : ℕ) (l : List ℕ) → scan s n l ≡ ended s (n + position_or_len separator l) (scan (suc (s + (n + position_or_len separator l))) 0 (after_first separator l))
unfolding scan ended
scan_run s n [] = let z : n + 0 ≡ n = omega arith in ap (λ (m : ℕ). ended s m []) (sym z)
scan_run s n (b ∷ l) = go (separator b) (scan_run s (suc n) l)
  where
    q : ℕ
    q = position_or_len separator l

    size : Bool → ℕ
    size y = cond (not y) (1 + q) 0

    go : (y : Bool) → scan s (suc n) l ≡ ended s (suc n + q) (scan (suc (s + (suc n + q))) 0 (drop (q + 1) l))
        → cond y (ended s n (scan (suc (s + n)) 0 l)) (scan s (suc n) l) ≡ ended s (n + size y) (scan (suc (s + (n + size y))) 0 (drop (size y + 1) (b ∷ l)))
    go true h = let z : n + 0 ≡ n = omega arith in ap (λ (m : ℕ). ended s m (scan (suc (s + m)) 0 l)) (sym z)
    go false h =
        let e : suc n + q ≡ n + (1 + q) = omega arith in
        let f : suc (q + 1) ≡ 1 + q + 1 = omega arith in
        h ∙ ap₂ (λ (m k : ℕ). ended s m (scan (suc (s + m)) 0 (drop k (b ∷ l)))) e f

-- what the words behind byte `start` have signed, and those from there on
pub record TextSigns (F K : ℕ) (text : List ℕ) (signed start : ℕ) : Type 0 where
  pub whole : bit_or signed (or_over F K (bytes_over text (scan start 0 (drop start text)))) ≡ text_signature F K text

pub text_begins : (F K : ℕ) (text : List ℕ) → TextSigns F K text 0 0
unfolding text_signature words_of parts_of
text_begins F K text = record { whole = refl }

-- a separator at `start` begins no word
scan_passes : (text : List ℕ) (start : ℕ) → start < length text → separator (get_or text start 0) ≡ true
    → scan start 0 (drop start text) ≡ scan (start + 1) 0 (drop (start + 1) text)
unfolding scan ended
scan_passes text start below g =
    let ahead : drop start text ≡ get_or text start 0 ∷ drop (suc start) text = drop-cons text start 0 below in
    let next : suc (start + 0) ≡ start + 1 = omega arith in
    simp (ahead, g, next, add-one)

pub text_passes : (F K : ℕ) (text : List ℕ) (signed start : ℕ) → start < length text → separator (get_or text start 0) ≡ true → TextSigns F K text signed start
    → TextSigns F K text signed (start + 1)
text_passes F K text signed start below g s =
    record { whole = ap (λ (ps : List Part). bit_or signed (or_over F K (bytes_over text ps))) (sym (scan_passes text start below g)) ∙ s.whole }

-- a run that has begun ends where it would have been found to end from its first byte on
pub run_begun : (text : List ℕ) (start end : ℕ) → start < length text → separator (get_or text start 0) ≡ false
    → end ≡ start + 1 + position_or_len separator (drop (start + 1) text) → end ≡ start + position_or_len separator (drop start text)
run_begun text start end below g e =
    let ahead : drop start text ≡ get_or text start 0 ∷ drop (suc start) text = drop-cons text start 0 below in
    let on : suc start ≡ start + 1 = omega arith in
    let next : drop (suc start) text ≡ drop (start + 1) text = ap (λ (n : ℕ). drop n text) on in
    let one : position_or_len separator (drop start text) ≡ 1 + position_or_len separator (drop (start + 1) text) =
    ap (position_or_len separator) ahead
    ∙ ap (λ (y : Bool). cond (not y) (1 + position_or_len separator (drop (suc start) text)) 0) g
    ∙ ap (λ (l : List ℕ). 1 + position_or_len separator l) next
    in
    omega (arith, e, one)

-- the run from `start` on is a word or empty
pub text_next : (F K : ℕ) (text : List ℕ) (signed start end : ℕ) → end ≡ start + position_or_len separator (drop start text) → TextSigns F K text signed start
    → TextSigns F K text (bit_or signed (word_signature F K (take (end - start) (drop start text)))) (end + 1)
text_next F K text signed start end e s =
    let q : ℕ = position_or_len separator (drop start text) in
    let own : ℕ = word_signature F K (take (end - start) (drop start text)) in
    let size : 0 + q ≡ end - start = omega arith in
    let next : suc (start + (0 + q)) ≡ end + 1 = omega arith in
    let behind : drop (q + 1) (drop start text) ≡ drop (end + 1) text =
    drop-drop (q + 1) start text ∙ ap (λ (k : ℕ). drop k text) (omega arith)
    in
    let rest : or_over F K (bytes_over text (scan start 0 (drop start text))) ≡ bit_or own (or_over F K (bytes_over text (scan (end + 1) 0 (drop (end + 1) text)))) =
    ap (λ (ps : List Part). or_over F K (bytes_over text ps)) (scan_run start 0 (drop start text))
    ∙ ended_or F K text start (0 + q) (scan (suc (start + (0 + q))) 0 (drop (q + 1) (drop start text)))
    ∙ ap₂ (λ (n : ℕ) (ps : List Part). bit_or (word_signature F K (take n (drop start text))) (or_over F K (bytes_over text ps))) size (ap₂ (λ (i : ℕ) (l : List ℕ). scan i 0 l) next behind)
    in
    record { whole = or_assoc signed own (or_over F K (bytes_over text (scan (end + 1) 0 (drop (end + 1) text)))) ∙ ap (bit_or signed) (sym rest) ∙ s.whole }

pub text_ends : (F K : ℕ) (text : List ℕ) (signed start : ℕ) → length text ≤ start → TextSigns F K text signed start → signed ≡ text_signature F K text
unfolding or_over bytes_over scan ended
text_ends F K text signed start h s =
    sym (or_zero_r signed) ∙ ap (λ (l : List ℕ). bit_or signed (or_over F K (bytes_over text (scan start 0 l)))) (sym (drop_of_length-le text h)) ∙ s.whole

-- ---- the windows of a word

-- a word has set the positions js, and the others are those of the triplets ahead
pub record WordSigns (F K : ℕ) (word rest : List ℕ) (bits count : ℕ) : Type 0 where
  pub js : List ℕ
  pub sets : Sets F K js bits count
  pub whole : js ++ triplets F rest ≡ triplets F word

pub word_begins : (F K : ℕ) (word : List ℕ) → WordSigns F K word word 0 0
word_begins F K word = record { js = []; sets = sets_none F K; whole = refl }

triplets_next : (F : ℕ) (rest x : List ℕ) → 3 ≤ length rest → x ≡ take 3 rest
    → triplet_position F (get_or x 0 0) (get_or x 1 0) (get_or x 2 0) ∷ triplets F (drop 1 rest) ≡ triplets F rest
unfolding triplets triplets_from
triplets_next F [] x h e = absurd (omega arith)
triplets_next F (a ∷ []) x h e = absurd (omega arith)
triplets_next F (a ∷ b ∷ []) x h e = absurd (omega arith)
triplets_next F (a ∷ b ∷ c ∷ l) x h e = ap (λ (w : List ℕ). triplet_position F (get_or w 0 0) (get_or w 1 0) (get_or w 2 0) ∷ triplets_from F b c l) e

-- the window x of n bytes, 3, comes off what is ahead, and its position is counted
pub word_next : (F K : ℕ) (word rest rest' x : List ℕ) (n j bits count bits' count' : ℕ) → n ≡ 3 → n ≤ length rest → x ≡ take n rest → rest' ≡ drop 1 rest
    → j ≡ triplet_position F (get_or x 0 0) (get_or x 1 0) (get_or x 2 0)
    → ((js : List ℕ) → Sets F K js bits count → Sets F K (js ++ (j ∷ [])) bits' count')
    → WordSigns F K word rest bits count → WordSigns F K word rest' bits' count'
word_next F K word rest rest' x n j bits count bits' count' three long window behind position add u =
    let h : 3 ≤ length rest = omega (arith, three) in
    let e : j ∷ triplets F rest' ≡ triplets F rest =
    ap₂ (λ (i : ℕ) (r : List ℕ). i ∷ triplets F r) position behind ∙ triplets_next F rest x h (window ∙ ap (λ (k : ℕ). take k rest) three) in
    record { js = u.js ++ (j ∷ []); sets = add u.js u.sets; whole = append_assoc u.js (j ∷ []) (triplets F rest') ∙ ap (λ (r : List ℕ). u.js ++ r) e ∙ u.whole }

pub word_ends : (F K : ℕ) (word rest : List ℕ) (bits count : ℕ) → length rest < 3 → WordSigns F K word rest bits count → bits ≡ word_signature F K word
unfolding word_signature positions_of
word_ends F K word rest bits count h u =
    let none : triplets F rest ≡ [] = triplets_short F rest (omega arith) in
    let all : u.js ≡ triplets F word = sym (append-nil u.js) ∙ ap (λ (r : List ℕ). u.js ++ r) (sym none) ∙ u.whole in
    u.sets.signed ∙ ap (λ (r : List ℕ). set_all F (take K (different r))) all

-- at most K positions are set
pub word_few : (F K : ℕ) (word rest : List ℕ) (bits count : ℕ) → WordSigns F K word rest bits count → count ≤ K
word_few F K word rest bits count u = omega (arith, u.sets.counted, length-take K (different u.js))

-- the triplets ahead are no news once K are
sets_ahead : (F K : ℕ) (l js : List ℕ) (bits count : ℕ) → Inside F l → K ≤ count → Sets F K js bits count → Sets F K (js ++ l) bits count
sets_ahead F K [] js bits count i h s = subst (λ (r : List ℕ). Sets F K r bits count) (sym (append-nil js)) s
sets_ahead F K (j ∷ l) js bits count i h s =
    subst (λ (r : List ℕ). Sets F K r bits count) (append_assoc js (j ∷ []) l)
    (sets_ahead F K l (js ++ (j ∷ [])) bits count i.2 h (sets_full F K js j bits count i.0 i.1 s h))

pub word_full : (F K : ℕ) (word rest : List ℕ) (bits count : ℕ) → 1 ≤ F → K ≤ count → WordSigns F K word rest bits count → bits ≡ word_signature F K word
unfolding word_signature positions_of
word_full F K word rest bits count p h u =
    let s : Sets F K (u.js ++ triplets F rest) bits count = sets_ahead F K (triplets F rest) u.js bits count (inside_triplets F rest p) h u.sets in
    s.signed ∙ ap (λ (r : List ℕ). set_all F (take K (different r))) u.whole
