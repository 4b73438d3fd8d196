-- The questions, in order (document 01, "The questions, in order"): for each call 0, or the number of its first no.
-- Questions 4 to 10 are asked of the tables' words or of the ledger: `Asked` is what either has to say. Question 11, are the
-- tables sound, is asked in the promises.
-- Assumes nothing.
use Rattle.std.specs.Prelude.{ℕ, zero, suc, ◌+◌, ◌*◌, ◌^◌, Bool, true, false, not, ◌&&◌, List, [], ◌∷◌, eqb, leb, ltb, length, get_or}
use Rattle.model.specs.Limits.{widest, most_blocks}
use Rattle.model.specs.Wide.{word_count, number_in}
use Rattle.model.specs.Tables.{links_of, blocks_of, width_of, told_blocks, filed_of}

-- do the links' length and B fit; how many words has the signature slice; do F and words 0 and 1 fit; F; B; is a block's filed word other than 0?
pub record Asked : Type 0 where
  pub lengths : Bool
  pub lent : ℕ
  pub words : Bool
  pub width : ℕ
  pub blocks : ℕ
  pub filed : ℕ → Bool

-- F is 1 to 512
abbrev pub width_fits : ℕ → Bool
width_fits F = leb 1 F && leb F widest

-- B is 1 to 65,535
abbrev pub blocks_fit : ℕ → Bool
blocks_fit B = leb 1 B && leb B most_blocks

-- what the tables say; a filed word above 1 counts as filed
abbrev pub asks_tables : List ℕ → List ℕ → Asked
asks_tables words links = record {
  lengths = blocks_fit (blocks_of links) && eqb (length links) (links_of (blocks_of links));
  lent = length words;
  words = width_fits (width_of links) && eqb (told_blocks links) (blocks_of links);
  width = width_of links;
  blocks = blocks_of links;
  filed = λ b. not (eqb (filed_of links b) 0);
}

-- the question's number where the answer to it is no, else what the later questions give
unfoldable pub ask : ℕ → Bool → ℕ → ℕ
ask number true later = later
ask number false later = number

-- has the signature slice B times W words, W of this width?
abbrev pub lent_fits : Asked → ℕ → Bool
lent_fits A F = eqb A.lent (A.blocks * word_count F)

-- question 4 as all calls but clear ask it
abbrev pub tables_fit : Asked → Bool
tables_fit A = A.lengths && A.words && lent_fits A A.width

-- and as those with a signature or a query ask it: it has exactly W words
abbrev pub words_fit : Asked → List ℕ → Bool
words_fit A s = tables_fit A && eqb (length s) (word_count A.width)

-- question 6: is the number in the words below 2 ^ F?
abbrev pub is_signature : Asked → List ℕ → Bool
is_signature A s = ltb (number_in s) (2 ^ A.width)

-- question 5: is the block 1 to B?
abbrev pub is_block : Asked → ℕ → Bool
is_block A b = leb 1 b && leb b A.blocks

-- clear looks at lengths, B and its own F
unfoldable pub clear_refusal : Asked → ℕ → ℕ
clear_refusal A F = ask 4 (A.lengths && width_fits F && lent_fits A F) 0

unfoldable pub file_refusal : Asked → ℕ → List ℕ → ℕ
file_refusal A b s = ask 4 (words_fit A s) (ask 5 (is_block A b) (ask 6 (is_signature A s) (ask 7 (not (A.filed b)) 0)))

unfoldable pub withdraw_refusal : Asked → ℕ → ℕ
withdraw_refusal A b = ask 4 (tables_fit A) (ask 5 (is_block A b) (ask 8 (A.filed b) 0))

-- by the scratch's length
unfoldable pub rebuild_refusal : Asked → ℕ → ℕ
rebuild_refusal A scratch = ask 4 (tables_fit A) (ask 9 (leb A.blocks scratch) 0)

-- by the lengths of the marks and of the output
unfoldable pub search_refusal : Asked → List ℕ → ℕ → ℕ → ℕ
search_refusal A q marks output = ask 4 (words_fit A q) (ask 6 (is_signature A q) (ask 9 (leb A.blocks marks) (ask 10 (leb A.blocks output) 0)))

unfoldable pub audit_refusal : Asked → ℕ
audit_refusal A = ask 4 (tables_fit A) 0

-- A call with its arguments: clear (width), file (block, the signature's words), withdraw (block), rebuild, search (the query's words), audit.
pub data Call : Type 0 where
  clear : ℕ → Call
  file : ℕ → List ℕ → Call
  withdraw : ℕ → Call
  rebuild : Call
  search : List ℕ → Call
  audit : Call

-- The slices that calls borrow besides the tables: rebuild the scratch, search the marks and the output.
pub record Work : Type 0 where
  pub scratch : List ℕ
  pub marks : List ℕ
  pub output : List ℕ

-- the first of the questions 4 to 10 whose answer is no, or 0 where there is none
abbrev pub refusal : Asked → Work → Call → ℕ
refusal A W (clear F) = clear_refusal A F
refusal A W (file b s) = file_refusal A b s
refusal A W (withdraw b) = withdraw_refusal A b
refusal A W rebuild = rebuild_refusal A (length W.scratch)
refusal A W (search q) = search_refusal A q (length W.marks) (length W.output)
refusal A W audit = audit_refusal A

-- Slips: any list of bytes. The number in n bytes from byte i on, high byte first:
unfoldable pub number_at : List ℕ → ℕ → ℕ → ℕ
number_at bytes i zero = 0
number_at bytes i (suc n) = 256 * number_at bytes i n + get_or bytes (i + n) 0

-- the n words from byte i on, 8 bytes each
unfoldable pub words_at : List ℕ → ℕ → ℕ → List ℕ
words_at bytes i zero = []
words_at bytes i (suc n) = number_at bytes i 8 ∷ words_at bytes (i + 8) n

-- a slip's fields: kind, byte 0; block, bytes 4 to 7; then the signature or query
abbrev pub kind_in : List ℕ → ℕ
kind_in bytes = number_at bytes 0 1

abbrev pub block_in : List ℕ → ℕ
block_in bytes = number_at bytes 4 4

-- how long a slip with a field of W words is; kind 0 has one word
abbrev pub slip_length : ℕ → ℕ
slip_length W = 8 + 8 * W

-- are bytes 1 to 3 zero? is a field of W words?
abbrev pub zeros_in : List ℕ → Bool
zeros_in bytes = eqb (number_at bytes 1 3) 0

abbrev pub no_field : List ℕ → ℕ → Bool
no_field bytes W = eqb (number_at bytes 8 (8 * W)) 0

-- What a slip comes to: refused by the questions asked of slips, or a call, of which the later questions are asked.
pub data Reading : Type 0 where
  refused : ℕ → Reading
  carries : Call → Reading

-- a question of these, of which a no decides
unfoldable pub ask_slip : ℕ → Bool → Reading → Reading
ask_slip number true later = later
ask_slip number false later = refused number

-- kinds 1 to 4: question 4 as all calls but clear ask it, then 1, then 3
unfoldable pub ask_kind : Asked → List ℕ → Bool → Call → Reading
ask_kind A bytes unused c = ask_slip 4 (tables_fit A) (ask_slip 1 (eqb (length bytes) (slip_length (word_count A.width))) (ask_slip 3 (zeros_in bytes && unused) (carries c)))

-- question 2, and the others for the fields that the kind uses: the kinds are 0 clear (block field is F), 1 file, 2 withdraw, 3 rebuild, 4 search
unfoldable pub read_kind : Asked → List ℕ → ℕ → Reading
read_kind A bytes zero = ask_slip 1 (eqb (length bytes) (slip_length 1)) (ask_slip 3 (zeros_in bytes && no_field bytes 1) (carries (clear (block_in bytes))))
read_kind A bytes (suc zero) = ask_kind A bytes true (file (block_in bytes) (words_at bytes 8 (word_count A.width)))
read_kind A bytes (suc (suc zero)) = ask_kind A bytes (no_field bytes (word_count A.width)) (withdraw (block_in bytes))
read_kind A bytes (suc (suc (suc zero))) = ask_kind A bytes (eqb (block_in bytes) 0 && no_field bytes (word_count A.width)) rebuild
read_kind A bytes (suc (suc (suc (suc zero)))) = ask_kind A bytes (eqb (block_in bytes) 0) (search (words_at bytes 8 (word_count A.width)))
read_kind A bytes (suc (suc (suc (suc (suc n))))) = refused 2

-- an empty slip gets 1; else 2 comes first
unfoldable pub read_slip : Asked → List ℕ → Reading
read_slip A bytes = ask_slip 1 (leb 1 (length bytes)) (read_kind A bytes (kind_in bytes))
