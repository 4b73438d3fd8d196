-- Sound tables never get 11: no question before it has that number, and the promises give sound tables 0.
-- Assumes nothing.
use Prim.Native.Nat.{ℕ, ◌≤◌}
use native.Mathlib.Decide.{ℕ_discrete}
use native.Mathlib.Omega.{arith}
use mathlib.Core.Path.{◌≡◌, ap}
use mathlib.Core.Logic.{⊎_elim, ◌≢◌}
use mathlib.Core.Bool.{Bool, true, false}
use Rattle.model.specs.Sound.{SoundLent}
use Rattle.model.specs.Questions.{Asked, ask, clear_refusal, file_refusal, withdraw_refusal, rebuild_refusal, search_refusal, audit_refusal, Call, clear, file, withdraw, rebuild, search, audit, Work, refusal, asks_tables}
use Rattle.model.specs.Ledger.{Report}
use Rattle.model.specs.Promises.{unsound}
use Rattle.model.specs.Lists.{Memory, Gives}

ask_few : (n : ℕ) (t : Bool) (k : ℕ) → n ≤ 10 → k ≤ 10 → ask n t k ≤ 10
unfolding ask
ask_few n true k h g = g
ask_few n false k h g = h

-- questions 4 to 10 have smaller numbers
pub refusal_few : (A : Asked) (W : Work) (c : Call) → refusal A W c ≤ 10
unfolding clear_refusal file_refusal withdraw_refusal rebuild_refusal search_refusal audit_refusal
refusal_few A W (clear F) = ask_few 4 _ 0 (omega arith) (omega arith)
refusal_few A W (file b s) = ask_few 4 _ _ (omega arith) (ask_few 5 _ _ (omega arith) (ask_few 6 _ _ (omega arith) (ask_few 7 _ 0 (omega arith) (omega arith))))
refusal_few A W (withdraw b) = ask_few 4 _ _ (omega arith) (ask_few 5 _ _ (omega arith) (ask_few 8 _ 0 (omega arith) (omega arith)))
refusal_few A W rebuild = ask_few 4 _ _ (omega arith) (ask_few 9 _ 0 (omega arith) (omega arith))
refusal_few A W (search q) = ask_few 4 _ _ (omega arith) (ask_few 6 _ _ (omega arith) (ask_few 9 _ _ (omega arith) (ask_few 10 _ 0 (omega arith) (omega arith))))
refusal_few A W audit = ask_few 4 _ 0 (omega arith) (omega arith)

answered : (n a : ℕ) → n ≤ 10 → (n ≢ 0 → a ≡ n) → (n ≡ 0 → a ≡ 0) → a ≢ unsound
answered n a h f g e = go (ℕ_discrete n 0)
  where
    go : Dec (n ≡ 0) → ⊥
    go (yes z) = omega (arith, g z)
    go (no d) = omega (arith, f d)

pub never_eleven : (c : Call) (M : Memory) (o : Report) (M' : Memory) → Gives c M o M' → SoundLent M.signatures M.links → o.answer ≢ unsound
never_eleven (clear F) M o M' g S = answered _ _ (refusal_few (asks_tables M.signatures M.links) M.work (clear F)) (λ n. (g.0.refused n).0) (λ e. (g.0.done e).0)
never_eleven (file b s) M o M' g S = answered _ _ (refusal_few (asks_tables M.signatures M.links) M.work (file b s)) (λ n. (g.0.refused n).0) (λ e. (g.0.done e S).0)
never_eleven (withdraw b) M o M' g S = answered _ _ (refusal_few (asks_tables M.signatures M.links) M.work (withdraw b)) (λ n. (g.0.refused n).0) (λ e. (g.0.done e S).0)
never_eleven rebuild M o M' g S =
    answered _ _ (refusal_few (asks_tables M.signatures M.links) M.work rebuild) (λ n. (g.0.refused n).0) (λ e. ⊎_elim (λ x. x.zero) (λ x. absurd (x.0 S)) (g.0.asked e))
never_eleven (search q) M o M' g S =
    answered _ _ (refusal_few (asks_tables M.signatures M.links) M.work (search q)) (λ n. ap (λ (r : Report). r.answer) (g.0.refused n).0) (λ e. ap (λ (r : Report). r.answer) (g.0.done e S).0)
never_eleven audit M o M' g S =
    answered _ _ (refusal_few (asks_tables M.signatures M.links) M.work audit) (λ n. g.0.refused n) (λ e. ⊎_elim (λ x. x.0) (λ x. absurd (x.1 S)) (g.0.asked e))
