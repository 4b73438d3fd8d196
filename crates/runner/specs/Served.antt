-- What serving slips leaves (document 01, Ticket 9): how long each slip is, how many words it is lent, that it is carried out on the memory
-- as the last one left it, and that its line is that of its report, to the byte. The memory M is all that the program holds: its signatures
-- are words enough for an index of any width, and a slip is lent the first of them.
-- Assumes nothing.
use Rattle.std.specs.Prelude.{ℕ, ◌+◌, ◌*◌, ◌≤◌, ◌<◌, ◌≡◌, Bool, true, cond, ◌&&◌, List, [], ◌∷◌, ◌++◌, Option, eqb, leb, length, get_or, take, drop}
use Rattle.std.specs.Io.KnownBytes.{Consumes}
use Rattle.model.specs.Limits.{widest}
use Rattle.model.specs.Wide.{word_count}
use Rattle.model.specs.Tables.{width_of}
use Rattle.model.specs.Packed.{packed_blocks}
use Rattle.model.specs.Questions.{width_fits, kind_in, block_in, slip_length}
use Rattle.model.specs.Ledger.{Report}
use Rattle.model.specs.PackedPromises.{packed_fit}
use Rattle.model.specs.PackedLists.{PackedMemory, PackedSlip}
use Rattle.tables.specs.declared.lent.TablesMut.{TablesMut}
use Rattle.lines.specs.Text.{line_text, Puts}

-- How long a slip is, by its first byte and the index's width. A clear has one word; so has an unknown kind, and any on an index not yet cleared.
unfoldable pub slip_size : List ℕ → ℕ → ℕ
slip_size links kind = cond (leb 1 kind && leb kind 4 && width_fits (width_of links)) (slip_length (word_count (width_of links))) (slip_length 1)

-- the slip at the front of the bytes
pub record IsSlip (links bytes slip : List ℕ) : Type 0 where
  pub long : length slip ≡ slip_size links (get_or bytes 0 0)
  pub front : slip ≡ take (length slip) bytes

-- no whole slip is at their front
abbrev pub NoSlip : List ℕ → List ℕ → Type 0
NoSlip links bytes = length bytes < slip_size links (get_or bytes 0 0)

-- how many words B signatures of width F have; none where there is no such width
unfoldable pub words_by : ℕ → ℕ → ℕ
words_by B F = cond (width_fits F) (B * word_count F) 0

-- is the slip a whole clear, to a width that there is?
unfoldable pub clears : List ℕ → Bool
clears slip = eqb (length slip) (slip_length 1) && eqb (kind_in slip) 0 && width_fits (block_in slip)

-- how many words a slip is lent: those of a clear's own width, else those of the index's
abbrev pub lent_count : List ℕ → List ℕ → ℕ
lent_count links slip = words_by (packed_blocks links) (cond (clears slip) (block_in slip) (width_of links))

-- the memory lent of M where it is lent its first n words, and all that is held once that is given back
abbrev pub lent_of : PackedMemory → ℕ → PackedMemory
lent_of M n = record { signatures = take n M.signatures; links = M.links; nodes = M.nodes; work = M.work }

abbrev pub given_back : PackedMemory → ℕ → PackedMemory → PackedMemory
given_back M n left = record { signatures = left.signatures ++ drop n M.signatures; links = left.links; nodes = left.nodes; work = left.work }

-- A slip is carried out on the words that it is lent, and no other word is touched.
pub record Serves (M : PackedMemory) (slip : List ℕ) (o : Report) (M' : PackedMemory) : Type 0 where
  pub enough : lent_count M.links slip ≤ length M.signatures
  pub left : PackedMemory
  pub gives : PackedSlip slip (lent_of M (lent_count M.links slip)) o left
  pub long : length left.signatures ≡ lent_count M.links slip
  pub back : M' ≡ given_back M (lent_count M.links slip) left

-- the line of a kind, a report, and the blocks found
abbrev pub line_with : ℕ → Report → List ℕ → List ℕ
line_with kind o output = line_text kind (o.answer ∷ o.found ∷ o.compares ∷ o.bits ∷ take o.found output)

-- the line of a slip
abbrev pub line_of : List ℕ → Report → List ℕ → List ℕ
line_of slip o output = line_with (get_or slip 0 0) o output

-- One slip: some report that keeps the slip's promise, and that report's line put into the text.
pub record Served (slip : List ℕ) (M M' : PackedMemory) (text : List ℕ) (at next : ℕ) (text' : List ℕ) : Type 0 where
  pub report : Report
  pub serves : Serves M slip report M'
  pub puts : Puts text at (line_of slip report M'.work.output) next text'
  pub room : next ≤ at + 48 + 11 * length M'.work.output

-- Whole slips in turn, from the memory M: the bytes that they take, all their lines, and the memory that the last one leaves. How long each
-- is, is told by its first byte and the links that the one before it left.
pub data InTurn (M : PackedMemory) : List ℕ → List ℕ → PackedMemory → Type 0 where
  none : InTurn M [] [] M
  after : (bytes text : List ℕ) (M₁ : PackedMemory) → InTurn M bytes text M₁
      → (slip : List ℕ) (o : Report) (M₂ : PackedMemory) → length slip ≡ slip_size M₁.links (get_or slip 0 0) → Serves M₁ slip o M₂
      → InTurn M (bytes ++ slip) (text ++ line_of slip o M₂.work.output) M₂

-- A batch of slips, up to byte `at`. Their lines are the first `used` bytes of the text.
pub record Batched (bytes : List ℕ) (M M' : PackedMemory) (at used : ℕ) (text : List ℕ) : Type 0 where
  pub inside : at ≤ length bytes
  pub turns : InTurn M (take at bytes) (take used text) M'
  pub room : used ≤ length text

-- Every whole slip of the bytes, up to byte r.
pub record Drained (bytes : List ℕ) (M M' : PackedMemory) (r : ℕ) : Type 0 where
  pub inside : r ≤ length bytes
  pub text : List ℕ
  pub turns : InTurn M (take r bytes) text M'
  pub all : NoSlip M'.links (drop r bytes)

-- What is left at the end of the input: nothing, or a slip, which is short.
pub data Ended (M : PackedMemory) : List ℕ → PackedMemory → Type 0 where
  nothing : Ended M [] M
  short : (slip : List ℕ) (o : Report) (M' : PackedMemory) → 0 < length slip → NoSlip M.links slip → Serves M slip o M' → Ended M slip M'

-- Every whole slip that a reader gave; what it gave beyond them is left. (Where no bytes are known of it, nothing is said of them.)
pub record Whole (before after : Option (List ℕ)) (M M' : PackedMemory) (left : List ℕ) : Type 0 where
  pub bytes : List ℕ
  pub taken : Consumes before after (bytes ++ left)
  pub text : List ℕ
  pub turns : InTurn M bytes text M'
  pub all : NoSlip M'.links left

-- Slips in turn, then what is left, and no other change.
pub record Ran (M M' : PackedMemory) : Type 0 where
  pub bytes : List ℕ
  pub text : List ℕ
  pub middle : PackedMemory
  pub turns : InTurn M bytes text middle
  pub left : List ℕ
  pub ended : Ended middle left M'

-- Every slip that a reader gave, the short one too.
pub record Took (before after : Option (List ℕ)) (M M' : PackedMemory) : Type 0 where
  pub ran : Ran M M'
  pub taken : Consumes before after (ran.bytes ++ ran.left)

-- The links and nodes held are those of an index, and the words are enough for one of any width.
pub record HoldsIndex (words links nodes : List ℕ) : Type 0 where
  pub fits : packed_fit links nodes ≡ true
  pub enough : packed_blocks links * word_count widest ≤ length words

abbrev pub IndexIn : TablesMut → Type 0
IndexIn t = HoldsIndex t.signatures.now t.links.now t.nodes.now
