-- Packed tables in lists of calls: they say of themselves what the tables say that they hold, so a run of them is a run of these, and
-- demand 3 is theirs too. No other thing of theirs matters than lengths that fit, and every call keeps them.
-- Assumes nothing.
use Prim.Native.Nat.{ℕ, zero, suc, ◌+◌, ◌-◌, ◌*◌, ◌≤◌}
use native.Mathlib.Omega.{arith}
use mathlib.Core.Path.{◌≡◌, refl, ◌∙◌, ap, ap₂, subst}
use mathlib.Core.Logic.{◌≢◌}
use mathlib.Core.Bool.{true}
use mathlib.Core.List.{List, [], ◌∷◌, ◌++◌}
use lib.ListN.{replicate, length-replicate, replicate-append-replicate}
use Rattle.model.specs.Limits.{most_blocks}
use Rattle.model.specs.Tree.{Tree, nothing}
use Rattle.model.specs.Tables.{links_of}
use Rattle.model.specs.Packed.{rows_of, opened, unpacked}
use Rattle.model.specs.Questions.{Asked, Work, Call, Reading, carries}
use Rattle.model.specs.Ledger.{Ledger, empty_ledger, Report}
use Rattle.model.specs.Lists.{Memory, Gives, reading, GivesReading, lent_slice, MayLend, Run, lent_to, reading_on}
use Rattle.model.specs.Claim.{Claim, Begins, zeros}
use Rattle.model.specs.PackedPromises.{packed_fit, Stays}
use Rattle.model.specs.PackedLists.{PackedMemory, held, PackedGives, PackedStep, held_step, held_steps, packed_lent, packed_after, packed_reading, PackedRun}
use Rattle.model.proofs.Asking.{true_false}
use Rattle.model.proofs.Packing.{packed_asks, fit_stays, packs_fit}
use Rattle.lists.proofs.Readings.{carried}
use Rattle.lists.proofs.Demand.{demand}

-- A step of packed tables is a step of the tables that they hold, and a run a run.
module _ (words links nodes : List ℕ) (f : packed_fit links nodes ≡ true) (u : PackedStep) where
  -- its request comes to the same
  pub reading_held : packed_reading words links nodes u ≡ reading_on words (unpacked links nodes) (held_step u)
  reading_held = ap (λ (A : Asked). reading A u.request) (packed_asks links nodes f (lent_slice words u.slice))

  pub lends_held : MayLend u.slice (packed_reading words links nodes u) → MayLend u.slice (reading_on words (unpacked links nodes) (held_step u))
  lends_held m = subst (MayLend u.slice) reading_held m

  module _ (g : PackedGives (packed_reading words links nodes u) (packed_lent words links nodes u) u.report u.left) where
    pub step_held : GivesReading (reading_on words (unpacked links nodes) (held_step u)) (lent_to words (unpacked links nodes) (held_step u)) u.report (held u.left)
    step_held = subst (λ (r : Reading). GivesReading r (lent_to words (unpacked links nodes) (held_step u)) u.report (held u.left)) reading_held (g.asked f).0

    pub step_stays : Stays u.report.answer links nodes u.left.links u.left.nodes
    step_stays = (g.asked f).1

    -- lengths that fit go on fitting
    pub step_fits : packed_fit u.left.links u.left.nodes ≡ true
    step_fits = fit_stays links nodes u.left.links u.left.nodes step_stays.rows_long step_stays.nodes_long f

pub run_held : (words links nodes : List ℕ) → packed_fit links nodes ≡ true → (us : List PackedStep) → PackedRun words links nodes us → Run words (unpacked links nodes) (held_steps us)
run_held words links nodes f [] r = tt
run_held words links nodes f (u ∷ us) r = (
  step_held words links nodes f u r.0,
  lends_held words links nodes f u r.1,
  run_held (packed_after words u) u.left.links u.left.nodes (step_fits words links nodes f u r.0) us r.2,
)

-- a call of packed tables that fit, by what it gives on the memory held
pub packed_gives : (c : Call) (M : PackedMemory) (o : Report) (M' : PackedMemory) → packed_fit M.links M.nodes ≡ true
    → Gives c (held M) o (held M') → Stays o.answer M.links M.nodes M'.links M'.nodes → PackedGives (carries c) M o M'
packed_gives c M o M' f g s = record { unread = λ n e. absurd (omega (arith, ap carried e)); unfit = λ d e x. true_false f x; asked = λ _. (g, s) }

-- Demand 3 of packed tables: the claim about the tables held.
pub packed_demand : (words links nodes : List ℕ) → packed_fit links nodes ≡ true → (L : Ledger) (t : Tree) → Begins words (unpacked links nodes) L t
    → (us : List PackedStep) → PackedRun words links nodes us → Claim L t words (unpacked links nodes) (held_steps us)
packed_demand words links nodes f L t b us r = demand words (unpacked links nodes) L t b (held_steps us) (run_held words links nodes f us r)

-- A refusal leaves the slices themselves as they were lent, not only the tables that they hold.
abbrev pub Untouched : List ℕ → List ℕ → List ℕ → List PackedStep → Type 0
Untouched words links nodes [] = Unit {0}
Untouched words links nodes (u ∷ us) =
    (u.report.answer ≢ 0 → u.left ≡ packed_lent words links nodes u) × Untouched (packed_after words u) u.left.links u.left.nodes us

same_memory : (M N : PackedMemory) → M.signatures ≡ N.signatures → M.links ≡ N.links → M.nodes ≡ N.nodes → M.work ≡ N.work → M ≡ N
same_memory M N a b c d =
    ap₂ (λ (s l : List ℕ). record { signatures = s; links = l; nodes = M.nodes; work = M.work }) a b
    ∙ ap₂ (λ (n : List ℕ) (w : Work). record { signatures = N.signatures; links = N.links; nodes = n; work = w }) c d

claim_untouched : (words links nodes : List ℕ) → packed_fit links nodes ≡ true → (L : Ledger) (t : Tree) (us : List PackedStep) → PackedRun words links nodes us
    → Claim L t words (unpacked links nodes) (held_steps us) → Untouched words links nodes us
claim_untouched words links nodes f L t [] r c = tt
claim_untouched words links nodes f L t (u ∷ us) r c = (
  (λ n. let e = c.0.untouched n in
      let k = (step_stays words links nodes f u r.0).untouched n in
      same_memory u.left (packed_lent words links nodes u) (ap (λ (M : Memory). M.signatures) e) k.0 k.1 (ap (λ (M : Memory). M.work) e)),
  claim_untouched (packed_after words u) u.left.links u.left.nodes (step_fits words links nodes f u r.0) _ _ us r.2 c.1,
)

pub packed_untouched : (words links nodes : List ℕ) → packed_fit links nodes ≡ true → (L : Ledger) (t : Tree) → Begins words (unpacked links nodes) L t
    → (us : List PackedStep) → PackedRun words links nodes us → Untouched words links nodes us
packed_untouched words links nodes f L t b us r = claim_untouched words links nodes f L t us r (packed_demand words links nodes f L t b us r)

-- ---- an index never cleared

-- zeros hold zeros
zero_opened : (n : ℕ) → opened (replicate n 0) ≡ replicate (n * 3) 0
unfolding opened
zero_opened zero = refl
zero_opened (suc n) = ap (λ (r : List ℕ). 0 ∷ 0 ∷ 0 ∷ r) (zero_opened n) ∙ ap (λ (k : ℕ). replicate k 0) (three n)
  where
    three : (n : ℕ) → suc (suc (suc (n * 3))) ≡ suc n * 3
    three n = omega arith

zero_tables : (m n : ℕ) → unpacked (replicate m 0) (replicate n 0) ≡ replicate (m + n * 3) 0
unfolding unpacked
zero_tables m n = ap (λ (r : List ℕ). replicate m 0 ++ r) (zero_opened n) ∙ replicate-append-replicate m (n * 3) 0

module _ (B : ℕ) (b1 : 1 ≤ B) (b2 : B ≤ most_blocks) where
  pub zeros_fit : packed_fit (replicate (rows_of B) 0) (replicate (B - 1) 0) ≡ true
  zeros_fit =
      packs_fit B (replicate (rows_of B) 0) (replicate (B - 1) 0) b1 b2 (record {
        rows_long = length-replicate {A = ℕ} (rows_of B) 0;
        nodes_long = omega (arith, length-replicate {A = ℕ} (B - 1) 0);
      })

  -- whatever words are lent for signatures
  pub zeros_begin : (words : List ℕ) → Begins words (unpacked (replicate (rows_of B) 0) (replicate (B - 1) 0)) (empty_ledger B 0) nothing
  zeros_begin words = let n : rows_of B + (B - 1) * 3 ≡ links_of B = omega arith in zeros B b1 b2 (zero_tables (rows_of B) (B - 1) ∙ ap (λ (k : ℕ). replicate k 0) n)

  pub packed_zeros : (words : List ℕ) (us : List PackedStep) → PackedRun words (replicate (rows_of B) 0) (replicate (B - 1) 0) us
      → Claim (empty_ledger B 0) nothing words (unpacked (replicate (rows_of B) 0) (replicate (B - 1) 0)) (held_steps us)
  packed_zeros words = packed_demand words (replicate (rows_of B) 0) (replicate (B - 1) 0) zeros_fit (empty_ledger B 0) nothing (zeros_begin words)

-- sigrun's tables of 1,024 blocks, whose links and nodes are 0 at start
pub from_sigrun : (words : List ℕ) (us : List PackedStep) → PackedRun words (replicate 2053 0) (replicate 1023 0) us
    → Claim (empty_ledger 1024 0) nothing words (unpacked (replicate 2053 0) (replicate 1023 0)) (held_steps us)
from_sigrun = packed_zeros 1024 (omega arith) (omega arith)
