-- What slips read: a number that refuses one is not 0, and a slip that reads as a clear reads so whatever the tables are.
-- Assumes nothing.
use Prim.Native.Nat.{ℕ, zero, suc, ◌≤◌}
use native.Mathlib.Omega.{arith}
use mathlib.Core.Path.{◌≡◌, refl, sym, ◌∙◌, ap, subst}
use mathlib.Core.Bool.{Bool, true, false}
use mathlib.Core.List.{List}
use Rattle.model.specs.Questions.{Asked, Call, clear, file, withdraw, rebuild, search, audit, Reading, refused, carries, ask_slip, ask_kind, read_kind, read_slip, kind_in, block_in}
use Rattle.model.proofs.Asking.{true_false}
use Rattle.model.specs.Lists.{Request, direct, slip, reading, another, MayLend}

-- is it a call, and which
abbrev pub call_of : Reading → Call
call_of (refused n) = clear n
call_of (carries c) = c

abbrev pub carried : Reading → ℕ
carried (refused n) = 0
carried (carries c) = 1

-- one for a search, none for another call; and the same of clear
abbrev pub is_search : Call → ℕ
is_search (clear F) = 0
is_search (file b s) = 0
is_search (withdraw b) = 0
is_search rebuild = 0
is_search (search q) = 1
is_search audit = 0

abbrev pub is_clear : Call → ℕ
is_clear (clear F) = 1
is_clear (file b s) = 0
is_clear (withdraw b) = 0
is_clear rebuild = 0
is_clear (search q) = 0
is_clear audit = 0

-- the number that refuses, 1 for a call
abbrev pub number_of : Reading → ℕ
number_of (refused n) = n
number_of (carries c) = 1

ask_number : (n : ℕ) (t : Bool) (r : Reading) → 1 ≤ n → 1 ≤ number_of r → 1 ≤ number_of (ask_slip n t r)
unfolding ask_slip
ask_number n true r h k = k
ask_number n false r h k = h

kind_number : (A : Asked) (bytes : List ℕ) (k : ℕ) → 1 ≤ number_of (read_kind A bytes k)
unfolding read_kind ask_kind
kind_number A bytes zero = ask_number 1 _ _ (omega arith) (ask_number 3 _ _ (omega arith) (omega arith))
kind_number A bytes (suc zero) = ask_number 4 _ _ (omega arith) (ask_number 1 _ _ (omega arith) (ask_number 3 _ _ (omega arith) (omega arith)))
kind_number A bytes (suc (suc zero)) = ask_number 4 _ _ (omega arith) (ask_number 1 _ _ (omega arith) (ask_number 3 _ _ (omega arith) (omega arith)))
kind_number A bytes (suc (suc (suc zero))) = ask_number 4 _ _ (omega arith) (ask_number 1 _ _ (omega arith) (ask_number 3 _ _ (omega arith) (omega arith)))
kind_number A bytes (suc (suc (suc (suc zero)))) = ask_number 4 _ _ (omega arith) (ask_number 1 _ _ (omega arith) (ask_number 3 _ _ (omega arith) (omega arith)))
kind_number A bytes (suc (suc (suc (suc (suc k))))) = omega arith

-- what is refused is refused with a number
pub reading_number : (A : Asked) (q : Request) → 1 ≤ number_of (reading A q)
unfolding reading read_slip
reading_number A (direct c) = omega arith
reading_number A (slip bytes) = ask_number 1 _ _ (omega arith) (kind_number A bytes (kind_in bytes))

-- a clear does not look at the tables before question 4
ask_carries : (n : ℕ) (t : Bool) (r : Reading) (c : Call) → ask_slip n t r ≡ carries c → (t ≡ true) × (r ≡ carries c)
unfolding ask_slip
ask_carries n true r c e = (refl, e)
ask_carries n false r c e = absurd (omega (arith, ap carried e))

kind_asks : (A : Asked) (bytes : List ℕ) (unused : Bool) (c d : Call) → ask_kind A bytes unused c ≡ carries d → c ≡ d
unfolding ask_kind
kind_asks A bytes unused c d e =
    ap call_of (ask_carries 3 _ _ d (ask_carries 1 _ _ d (ask_carries 4 _ _ d e).1).1).1

kind_clears : (A A' : Asked) (bytes : List ℕ) (k F : ℕ) → read_kind A bytes k ≡ carries (clear F) → read_kind A' bytes k ≡ carries (clear F)
unfolding read_kind
kind_clears A A' bytes zero F e = e
kind_clears A A' bytes (suc zero) F e = absurd (omega (arith, ap is_clear (kind_asks A bytes _ _ _ e)))
kind_clears A A' bytes (suc (suc zero)) F e = absurd (omega (arith, ap is_clear (kind_asks A bytes _ _ _ e)))
kind_clears A A' bytes (suc (suc (suc zero))) F e = absurd (omega (arith, ap is_clear (kind_asks A bytes _ _ _ e)))
kind_clears A A' bytes (suc (suc (suc (suc zero)))) F e = absurd (omega (arith, ap is_clear (kind_asks A bytes _ _ _ e)))
kind_clears A A' bytes (suc (suc (suc (suc (suc k))))) F e = absurd (omega (arith, ap carried e))

ask_passes : (n : ℕ) (t : Bool) (r : Reading) → t ≡ true → ask_slip n t r ≡ r
unfolding ask_slip
ask_passes n true r i = refl
ask_passes n false r i = true_false {t = false} i refl

pub clear_reads : (A A' : Asked) (q : Request) (F : ℕ) → reading A q ≡ carries (clear F) → reading A' q ≡ carries (clear F)
unfolding reading read_slip
clear_reads A A' (direct c) F e = e
clear_reads A A' (slip bytes) F e =
    let x = ask_carries 1 _ _ (clear F) e in
    ask_passes 1 _ _ x.0 ∙ kind_clears A A' bytes (kind_in bytes) F x.1

-- a slip of kind 0 is refused or carries a clear: it may be lent another slice
ask_lends : (ws : List ℕ) (n : ℕ) (t : Bool) (r : Reading) → MayLend (another ws) r → MayLend (another ws) (ask_slip n t r)
unfolding ask_slip
ask_lends ws n true r m = m
ask_lends ws n false r m = tt

zero_lends : (ws : List ℕ) (A : Asked) (bytes : List ℕ) → MayLend (another ws) (read_kind A bytes 0)
unfolding read_kind
zero_lends ws A bytes = ask_lends ws 1 _ _ (ask_lends ws 3 _ _ (block_in bytes, refl))

pub kind_lends : (ws : List ℕ) (A : Asked) (bytes : List ℕ) → kind_in bytes ≡ 0 → MayLend (another ws) (reading A (slip bytes))
unfolding reading read_slip
kind_lends ws A bytes k = ask_lends ws 1 _ _ (subst (λ (x : ℕ). MayLend (another ws) (read_kind A bytes x)) (sym k) (zero_lends ws A bytes))
