-- What a call gives by its promise, said alike for all six: a refusal reports its number alone and changes nothing, and a call on
-- sound tables that no question refuses reports the ledger's counts and moves the tables with it.
-- Assumes nothing.
use Prim.Native.Nat.{ℕ}
use native.Mathlib.Omega.{arith}
use mathlib.Core.Path.{◌≡◌, refl, ◌∙◌, ap, subst}
use mathlib.Core.Logic.{⊎_elim, ◌≢◌}
use mathlib.Core.List.{List, []}
use Rattle.model.specs.Wide.{number_in}
use Rattle.model.specs.Tables.{signatures_of}
use Rattle.model.specs.Sound.{SoundLent}
use Rattle.model.specs.Questions.{Work, Call, clear, file, withdraw, rebuild, search, audit}
use Rattle.model.specs.Ledger.{Report, bare, done_by}
use Rattle.model.specs.Lists.{Memory, TablesOnly, Gives}
use Rattle.model.specs.Claim.{Searched}
use Rattle.lists.proofs.Searching.{search_report_is, search_bounds}
use Rattle.lists.specs.Moves.{ledger_in, tree_in, refusal_in, Moves, Done}
use Rattle.lists.specs.Stepped.{Refused}
use Rattle.lists.proofs.Readings.{is_search, is_clear}
use Rattle.lists.proofs.Moves.{file_moves, withdraw_moves, rebuild_moves}

-- lent slices that are the same, one by one
work_same : (W W' : Work) → W'.scratch ≡ W.scratch → W'.marks ≡ W.marks → W'.output ≡ W.output → W' ≡ W
work_same W W' a b c = λ i. record { scratch = a i; marks = b i; output = c i }

memory_same : (M M' : Memory) → M'.signatures ≡ M.signatures → M'.links ≡ M.links → M'.work ≡ M.work → M' ≡ M
memory_same M M' a b c = λ i. record { signatures = a i; links = b i; work = c i }

-- a refusal by a call that is lent the tables alone
tables_refused : (n : ℕ) (M M' : Memory) (o : Report) → (o.answer ≡ n) × (M'.signatures ≡ M.signatures) × (M'.links ≡ M.links) → TablesOnly M o M' → Refused n M o M'
tables_refused n M M' o x y = (y.counts ∙ ap bare x.0, memory_same M M' x.1 x.2 y.work)

-- what a question refuses reports its number and changes nothing
pub refused_gives : (c : Call) (M : Memory) (o : Report) (M' : Memory) → Gives c M o M' → refusal_in M c ≢ 0
    → Refused (refusal_in M c) M o M'
refused_gives (clear F) M o M' g n = tables_refused _ M M' o (g.0.refused n) g.1
refused_gives (file b s) M o M' g n = tables_refused _ M M' o (g.0.refused n) g.1
refused_gives (withdraw b) M o M' g n = tables_refused _ M M' o (g.0.refused n) g.1
refused_gives rebuild M o M' g n =
    let x = g.0.refused n in
    (g.1.counts ∙ ap bare x.0, memory_same M M' g.1.signatures x.1 (work_same M.work M'.work x.2 g.1.marks g.1.output))
refused_gives (search q) M o M' g n =
    let x = g.0.refused n in
    (x.0, memory_same M M' g.1.signatures g.1.links (work_same M.work M'.work g.1.scratch x.1 x.2))
refused_gives audit M o M' g n = (g.1 ∙ ap bare (g.0.refused n), g.2)

-- a call that is no search and answers 0
plainly : (c : Call) (M : Memory) (o : Report) (M' : Memory) → is_search c ≡ 0 → bare 0 ≡ done_by (ledger_in M) (tree_in M) c
    → o ≡ bare o.answer → o.answer ≡ 0 → (sigs⁺ links⁺ : List ℕ) → M'.signatures ≡ sigs⁺ → M'.links ≡ links⁺ → Moves M.signatures M.links c sigs⁺ links⁺ → Done c M o M'
plainly c M o M' z d e a sigs⁺ links⁺ f g m = record {
  report = e ∙ ap bare a ∙ d;
  moves = rw (f, g) m;
  searched = λ q h. absurd (omega (arith, ap is_search h));
}

-- the query of a search
abbrev query : Call → List ℕ
query (clear F) = []
query (file b s) = []
query (withdraw b) = []
query rebuild = []
query (search q) = q
query audit = []

-- what none refuses is carried out on sound tables; these never get 11. (A clear needs nothing of the tables: see Steps.)
pub done_gives : (c : Call) → is_clear c ≡ 0 → (M : Memory) (o : Report) (M' : Memory) → Gives c M o M' → refusal_in M c ≡ 0 → SoundLent M.signatures M.links → Done c M o M'
done_gives (clear F) i M o M' g e S = absurd (omega arith)
done_gives (file b s) i M o M' g e S =
    let x = g.0.done e S in
    plainly (file b s) M o M' refl refl g.1.counts x.0 _ _ x.1 x.2 (file_moves M.signatures M.links S b s e)
done_gives (withdraw b) i M o M' g e S =
    let x = g.0.done e S in
    plainly (withdraw b) M o M' refl refl g.1.counts x.0 _ _ x.1 x.2 (withdraw_moves M.signatures M.links S b e)
done_gives rebuild i M o M' g e S =
    ⊎_elim (λ x. plainly rebuild M o M' refl refl g.1.counts x.zero _ _ g.1.signatures x.made (rebuild_moves M.signatures M.links S))
    (λ x. absurd (x.0 S)) (g.0.asked e)
done_gives (search q) i M o M' g e S =
    let x = g.0.done e S in
    record {
      report = x.0 ∙ search_report_is (signatures_of M.signatures M.links) M.links S.sound q;
      moves = rw (g.1.signatures, g.1.links) (record { sound = S; ledger = refl; tree = refl });
      searched = λ p h. subst (λ (y : List ℕ). Searched (ledger_in M) (tree_in M) (number_in y) M.work o M'.work) (ap query h)
          (search_bounds (signatures_of M.signatures M.links) M.links S.sound q M.work M'.work o x.0 x.1 x.2);
    }
done_gives audit i M o M' g e S =
    ⊎_elim (λ x. plainly audit M o M' refl refl g.1 x.0 _ _ (ap (λ (y : Memory). y.signatures) g.2) (ap (λ (y : Memory). y.links) g.2) (record { sound = S; ledger = refl; tree = refl }))
    (λ x. absurd (x.1 S)) (g.0.asked e)
