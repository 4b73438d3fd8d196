-- One step of a list, by the ledger L and the plain tree t: it is right, and the tables that the index has after it go together with
-- the ledger and the tree after it, as they did before. The index's signature slice after it is `words`.
-- Assumes nothing.
use Rattle.std.specs.Prelude.{ℕ, ◌≡◌, List, length}
use Rattle.model.specs.Tree.{Tree}
use Rattle.model.specs.Questions.{Reading}
use Rattle.model.specs.Ledger.{Ledger, ledger_after, tree_after, Report, bare}
use Rattle.model.specs.Lists.{Memory}
use Rattle.model.specs.Claim.{Right, Begins}

abbrev pub Stepped : Ledger → Tree → Reading → Memory → Report → Memory → List ℕ → Type 0
Stepped L t r M o M' words =
    Right L t r M o M' words
    × Begins words M'.links (ledger_after L (length M.signatures) M.work r) (tree_after L t (length M.signatures) M.work r)

-- a refusal with number n
abbrev pub Refused : ℕ → Memory → Report → Memory → Type 0
Refused n M o M' = (o ≡ bare n) × (M' ≡ M)
