-- What a slip comes to by tables of which the reader is told only whether they fit, and W.
-- Assumes nothing.
use Rattle.std.proofs.Common.{◌≡◌, ℕ, zero, suc, ◌≤◌, Bool, true, false, List, [], ◌∷◌, eqb, length, refl, ap, ◌∙◌, arith, eqb-true, le-leb}
use Rattle.model.specs.Wide.{word_count}
use Rattle.model.specs.Questions.{Asked, Call, Reading, refused, ask_slip, ask_kind, kind_in, read_kind, read_slip}
use Rattle.slips.specs.Order.{Told, ask_form, ask_told}

-- question 4 decides, or the words are W
told_asked : (bytes : List ℕ) (fit : Bool) (words W : ℕ) → (fit ≡ true → words ≡ W) → (unused : ℕ → Bool) (c : ℕ → Call)
    → ask_slip 4 fit (ask_form bytes words (unused words) (c words)) ≡ ask_slip 4 fit (ask_form bytes W (unused W) (c W))
unfolding ask_slip
told_asked bytes true words W w unused c = ap (λ n. ask_form bytes n (unused n) (c n)) (w refl)
told_asked bytes false words W w unused c = refl

-- kinds 1 to 4
pub told_kind : {A : Asked} {fit : Bool} {words : ℕ} → Told A fit words → (bytes : List ℕ) (unused : ℕ → Bool) (c : ℕ → Call)
    → ask_told bytes fit words (unused words) (c words) ≡ ask_kind A bytes (unused (word_count A.width)) (c (word_count A.width))
unfolding ask_told ask_form ask_kind
told_kind {A} {fit} {words} T bytes unused c =
    told_asked bytes fit words (word_count A.width) T.wide unused c ∙ ap (λ t. ask_slip 4 t (ask_form bytes (word_count A.width) (unused (word_count A.width)) (c (word_count A.width)))) T.fits

-- an empty slip, and any other
pub told_empty : (A : Asked) (bytes : List ℕ) → eqb (length bytes) 0 ≡ true → refused 1 ≡ read_slip A bytes
unfolding read_slip ask_slip
told_empty A [] e = refl
told_empty A (b ∷ bs) e = absurd (omega (arith, eqb-true (suc (length bs)) 0 e))

pub told_some : (A : Asked) (bytes : List ℕ) (k : ℕ) (r : Reading) → eqb (length bytes) 0 ≡ false → k ≡ kind_in bytes → r ≡ read_kind A bytes k → r ≡ read_slip A bytes
unfolding read_slip ask_slip
told_some A [] k r e f g = cc
told_some A (b ∷ bs) k r e f g = rw (le-leb 1 (suc (length bs)) (omega arith), ask_slip) (g ∙ ap (read_kind A (b ∷ bs)) f)

-- question 2
pub told_unknown : (A : Asked) (bytes : List ℕ) (k : ℕ) → 5 ≤ k → refused 2 ≡ read_kind A bytes k
unfolding read_kind
told_unknown A bytes zero h = absurd (omega arith)
told_unknown A bytes (suc zero) h = absurd (omega arith)
told_unknown A bytes (suc (suc zero)) h = absurd (omega arith)
told_unknown A bytes (suc (suc (suc zero))) h = absurd (omega arith)
told_unknown A bytes (suc (suc (suc (suc zero)))) h = absurd (omega arith)
told_unknown A bytes (suc (suc (suc (suc (suc k))))) h = refl
