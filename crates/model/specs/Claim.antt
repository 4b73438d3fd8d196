-- Demand 3 (document 01): the single claim about a whole list of calls. It compares with the ledger and the plain tree alone.
-- Assumes nothing: this is the statement, and its proof stands elsewhere.
use Rattle.std.specs.Prelude.{ℕ, ◌+◌, ◌-◌, ◌*◌, ◌^◌, ◌≤◌, ◌<◌, ◌≡◌, ◌≢◌, true, List, [], ◌∷◌, length, replicate}
use Rattle.model.specs.Limits.{most_blocks}
use Rattle.model.specs.Basics.{has}
use Rattle.model.specs.Signature.{zero_bits}
use Rattle.model.specs.Tree.{Tree, nothing, leaf, node, signatures, path, Agrees}
use Rattle.model.specs.Wide.{number_in}
use Rattle.model.specs.Tables.{signatures_of, links_of, root_of, position_of, left_of, right_of, signature_of, tree_of}
use Rattle.model.specs.Sound.{SoundLent}
use Rattle.model.specs.Questions.{Work, search, Reading, carries}
use Rattle.model.specs.Ledger.{Ledger, empty_ledger, is_stored, stored, matching, ledger_of, ledger_after, tree_after, Report, report_by, asks_ledger}
use Rattle.model.specs.Promises.{marks_after, output_after}
use Rattle.model.specs.Lists.{Memory, reading, Step, lent_slice, lent_to, words_after, Run}

-- Reference r of the tables leads to this plain tree: 0 to nothing, 1 to B to a leaf with that block's signature, B + i to node i.
abbrev pub Leads : List ℕ → List ℕ → ℕ → Tree → Type 0
Leads sigs links r nothing = r ≡ 0
Leads sigs links r (leaf s) = (1 ≤ r) × (r ≤ length sigs) × (signature_of sigs r ≡ s)
Leads sigs links r (node p left right) =
    (i : ℕ) × (r ≡ length sigs + i) × (1 ≤ i) × (i < length sigs) × (position_of (length sigs) links i ≡ p)
    × Leads sigs links (left_of (length sigs) links i) left × Leads sigs links (right_of (length sigs) links i) right

-- The leaves are the stored signatures, each once; each stored signature, but no other stored one, agrees with all edges on its path.
pub record Paths (L : Ledger) (t : Tree) : Type 0 where
  pub leaves : (s : ℕ) → has s (signatures t) ≡ is_stored s L
  pub single : length (signatures t) ≡ length (stored L)
  pub agrees : (s : ℕ) → is_stored s L ≡ true → Agrees L.width s (path s t)
  pub others : (s u : ℕ) → is_stored s L ≡ true → is_stored u L ≡ true → u ≢ s → Agrees L.width u (path s t) → ⊥

-- At a moment the tables are the ledger's and the plain tree's: sound from the first clear on, with that ledger, and with that tree
-- from the root, by the function and by the references.
pub record Kept (L : Ledger) (t : Tree) (words links : List ℕ) : Type 0 where
  pub sound : 1 ≤ L.width → SoundLent words links
  pub ledger : ledger_of (signatures_of words links) links ≡ L
  pub tree : tree_of (signatures_of words links) links ≡ t
  pub leads : Leads (signatures_of words links) links (root_of links) t
  pub paths : Paths L t

-- A search for q that is not refused: the list, the marks, and the bounds of its counts.
pub record Searched (L : Ledger) (t : Tree) (q : ℕ) (W : Work) (o : Report) (W' : Work) : Type 0 where
  -- it lists all blocks that match, each exactly once, ascending, and no other
  pub listed : W'.output ≡ output_after (matching q L) W.output
  pub marked : W'.marks ≡ marks_after (length L.entries) (matching q L) W.marks
  -- compares are at most the distinct stored signatures, and at most 2 to the zero bits of the query
  pub compares_stored : o.compares ≤ length (stored L)
  pub compares_zeros : o.compares ≤ 2 ^ length (zero_bits L.width q)
  -- bits read: none for an empty tree, else at most d - 1 (0 - 1 is 0), and at most F times the compares
  pub bits_stored : o.bits ≤ length (stored L) - 1
  pub bits_compares : o.bits ≤ L.width * o.compares

-- One call, by the ledger L and the plain tree t before it; the index's signature slice after it is `words`.
pub record Right (L : Ledger) (t : Tree) (r : Reading) (M : Memory) (o : Report) (M' : Memory) (words : List ℕ) : Type 0 where
  -- the answer and all counts are the ledger's and the plain tree's
  pub report : o ≡ report_by L t (length M.signatures) M.work r
  -- a refusal changes nothing lent
  pub untouched : o.answer ≢ 0 → M' ≡ M
  pub searched : (q : List ℕ) → r ≡ carries (search q) → o.answer ≡ 0 → Searched L t (number_in q) M.work o M'.work
  pub kept : Kept (ledger_after L (length M.signatures) M.work r) (tree_after L t (length M.signatures) M.work r) words M'.links

-- how many words are lent for signatures with a step
abbrev pub lent_with : List ℕ → Step → ℕ
lent_with words s = length (lent_slice words s.slice)

-- what the step's request comes to, asked of the ledger
abbrev pub reading_by : Ledger → List ℕ → Step → Reading
reading_by L words s = reading (asks_ledger L (lent_with words s)) s.request

-- The claim about the whole list, from the tables, the ledger L and the plain tree t.
abbrev pub Claim : Ledger → Tree → List ℕ → List ℕ → List Step → Type 0
Claim L t words links [] = Unit {0}
Claim L t words links (s ∷ ss) =
    Right L t (reading_by L words s) (lent_to words links s) s.report s.left (words_after words s)
    × Claim (ledger_after L (lent_with words s) s.lent (reading_by L words s)) (tree_after L t (lent_with words s) s.lent (reading_by L words s))
    (words_after words s) s.left.links ss

-- Where a list starts: sound tables, with the ledger and the tree that they hold, or tables never cleared, all links 0.
pub data Begins (words links : List ℕ) : Ledger → Tree → Type 0 where
  sound : SoundLent words links → Begins words links (ledger_of (signatures_of words links) links) (tree_of (signatures_of words links) links)
  zeros : (B : ℕ) → 1 ≤ B → B ≤ most_blocks → links ≡ replicate (links_of B) 0 → Begins words links (empty_ledger B 0) nothing

-- Demand 3.
abbrev pub Demand : Type 0
Demand = (words links : List ℕ) (L : Ledger) (t : Tree) → Begins words links L t → (steps : List Step) → Run words links steps → Claim L t words links steps
