-- What a line of a text sheet says.
use Rattle.std.specs.Prelude.{ℕ, List, [], ◌∷◌, None, Ok, Option, Result, slice_index}
use Rattle.std.specs.Option.{option_map, ok_or}
use Rattle.terms.specs.declared.entry.Entry.{Entry}
use Rattle.terms.specs.declared.hull.Hull.{Hull}
use Rattle.words.specs.declared.form.Form.{Form}
use Rattle.words.specs.declared.form.Form.TheVariants as form
use Rattle.words.specs.declared.series.Series.{Series}
use Rattle.words.specs.declared.statement.Statement.{Statement}
use Rattle.words.specs.declared.statement.Statement.TheVariants as statement
use Rattle.words.specs.Forms.{form_of}
use Rattle.words.specs.Numbers.{numbers_of}
use Rattle.words.specs.Words.{uncommented, words_of}

-- the greatest number of a field: in a narrow one, and in any other
abbrev pub narrow : ℕ
narrow = 255

abbrev pub wide : ℕ
wide = 65535

abbrev pub series_of : List ℕ → Series
series_of ns = record { first = slice_index ns 0; step = slice_index ns 1; count = slice_index ns 2 }

abbrev pub hull_of : List ℕ → Hull
hull_of ns =
    record { length = slice_index ns 0; breadth = slice_index ns 1; depth = slice_index ns 2; draught = slice_index ns 3; water = slice_index ns 4 }

abbrev pub entry_of : List ℕ → Entry
entry_of ns = record {
  mark = slice_index ns 0;
  kind = slice_index ns 1;
  place = slice_index ns 2;
  near = slice_index ns 3;
  far = slice_index ns 4;
  spacing = slice_index ns 5;
  span = slice_index ns 6;
  pressure = slice_index ns 7;
  height = slice_index ns 8;
  strength = slice_index ns 9;
  area = slice_index ns 10;
}

-- the greatest number of each field
abbrev pub series_limits : List ℕ
series_limits = wide ∷ wide ∷ wide ∷ []

abbrev pub hull_limits : List ℕ
hull_limits = wide ∷ wide ∷ wide ∷ wide ∷ narrow ∷ []

abbrev pub entry_limits : List ℕ
entry_limits = wide ∷ narrow ∷ narrow ∷ wide ∷ wide ∷ wide ∷ wide ∷ narrow ∷ wide ∷ wide ∷ wide ∷ []

-- what the words after the first say, by the form that the first begins
abbrev pub statement_by : Form → List (List ℕ) → Option Statement
statement_by form.Any words = None
statement_by form.Book words = option_map (λ ns. statement.Book (slice_index ns 0)) (numbers_of (narrow ∷ []) words)
statement_by form.Plates words = option_map (λ ns. statement.Plates (series_of ns)) (numbers_of series_limits words)
statement_by form.Stiffeners words = option_map (λ ns. statement.Stiffeners (series_of ns)) (numbers_of series_limits words)
statement_by form.Hull words = option_map (λ ns. statement.Hull (hull_of ns)) (numbers_of hull_limits words)
statement_by form.Enter words = option_map (λ ns. statement.Enter (entry_of ns)) (numbers_of entry_limits words)

-- a line by its words: none, or a statement of the form of the first, or that form for what was expected
abbrev pub by_words : List (List ℕ) → Result Statement Form
by_words [] = Ok statement.Nothing
by_words (word ∷ words) = ok_or (statement_by (form_of word) words) (form_of word)

abbrev pub statement_of : List ℕ → Result Statement Form
statement_of line = by_words (words_of (uncommented line))
