-- What reading a slip means in document 01's terms: with the words that the reader left in the lent field, a refusal by its number or a
-- call with its arguments.
-- Assumes nothing.
use Rattle.std.specs.Prelude.{ℕ, ◌≡◌, ◌&&◌, Bool, true, List, Result, Ok, Err, eqb, length}
use Rattle.model.specs.Wide.{word_count}
use Rattle.model.specs.Questions.{Asked, tables_fit, slip_length, zeros_in, Call, clear, file, withdraw, rebuild, search, Reading, refused, carries, ask_slip, read_slip}
use Rattle.answers.specs.declared.refusal.Refusal.{Refusal}
use Rattle.answers.specs.Answers.{number_of}
use Rattle.slips.specs.declared.Order.{Order}
use Rattle.slips.specs.declared.Order.TheVariants.{Clear, File, Withdraw, Rebuild, Search}

-- the reading that an outcome stands for, with these words in the field
abbrev pub reading_of : Result Order Refusal → List ℕ → Reading
reading_of (Err refusal) ws = refused (number_of refusal)
reading_of (Ok (Clear width)) ws = carries (clear width)
reading_of (Ok (File block)) ws = carries (file block ws)
reading_of (Ok (Withdraw block)) ws = carries (withdraw block)
reading_of (Ok Rebuild) ws = carries rebuild
reading_of (Ok Search) ws = carries (search ws)

-- the field that an outcome leaves: only a filing and a search write the words
abbrev pub Leaves : Result Order Refusal → List ℕ → List ℕ → Type 0
Leaves (Err refusal) old new = new ≡ old
Leaves (Ok (Clear width)) old new = new ≡ old
Leaves (Ok (File block)) old new = length new ≡ length old
Leaves (Ok (Withdraw block)) old new = new ≡ old
Leaves (Ok Rebuild) old new = new ≡ old
Leaves (Ok Search) old new = length new ≡ length old

-- Of the tables the reader is told two things: do they fit, as all calls but clear ask it, and, where they do, W.
pub record Told (A : Asked) (fit : Bool) (words : ℕ) : Type 0 where
  pub fits : fit ≡ tables_fit A
  pub wide : fit ≡ true → words ≡ word_count A.width

-- the reading is the slip's, by all tables of which this is told
abbrev pub Reads : List ℕ → Bool → ℕ → Reading → Type 0
Reads bytes fit words r = (A : Asked) → Told A fit words → r ≡ read_slip A bytes

-- what is read after questions that passed, or their refusal
abbrev pub after : Result Unit Refusal → Reading → Reading
after (Ok passed) later = later
after (Err refusal) later = refused (number_of refusal)

-- question 1 of a slip with W words, then 3; `unused`: the fields that its kind does not use are 0
unfoldable pub ask_form : List ℕ → ℕ → Bool → Call → Reading
ask_form bytes W unused c = ask_slip 1 (eqb (length bytes) (slip_length W)) (ask_slip 3 (zeros_in bytes && unused) (carries c))

-- kinds 1 to 4, of what is told of the tables: question 4 first
unfoldable pub ask_told : List ℕ → Bool → ℕ → Bool → Call → Reading
ask_told bytes fit W unused c = ask_slip 4 fit (ask_form bytes W unused c)
