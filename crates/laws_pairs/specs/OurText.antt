-- This product's texts, by the definitions that the contracts of `report_text` and of log_pairs's `answer` cite. They are what the paper says, and no others are.
use Rattle.std.specs.Prelude.{ℕ, ◌<◌, ◌^◌, ◌≡◌, List, [], ◌∷◌, ◌↔◌}
use Rattle.log_number.specs.Promises.{Bytes}
use Rattle.log_event.specs.Kinds.{kinds}
use Rattle.log_pairs.specs.Comparing.{Answer, first, second, refused, inputs_of}
use Rattle.log_pairs.specs.Text.{answer_text}
use Rattle.report_text.specs.Decimal.{decimal}
use Rattle.report_text.specs.Text.{line_text, end_text}
use Rattle.laws_pairs.specs.Text.{Decimal, LineText, EndText, PartText}
use Rattle.laws_pairs.specs.Files.{Printed}

-- a line prints 32 bits of a number: of these answers that is the whole number
abbrev pub Within32 : Answer → Type 0
Within32 (first at) = at < 2 ^ 32
Within32 (second at) = at < 2 ^ 32
Within32 (refused n number place) = (number < 2 ^ 32) × (place < 2 ^ 32)

-- each text is exactly the one that this product's definition gives
pub record OurTexts : Type 0 where
  pub number : (n : ℕ) (text : List ℕ) → Decimal n text ↔ (text ≡ decimal n)
  pub line : (n : ℕ) (ns text : List ℕ) → LineText (n ∷ ns) text ↔ (text ≡ line_text (n ∷ ns))
  pub ending : (records code offset : ℕ) (text : List ℕ) → EndText records code offset text ↔ (text ≡ end_text (records ∷ code ∷ offset ∷ []))
  pub part : (answer : Answer) → Within32 answer → (text : List ℕ) → PartText answer text ↔ (text ≡ answer_text answer)

-- a thing has one text
pub record OneText : Type 0 where
  pub number : (n : ℕ) (a b : List ℕ) → Decimal n a → Decimal n b → a ≡ b
  pub line : (ns a b : List ℕ) → LineText ns a → LineText ns b → a ≡ b
  pub ending : (records code offset : ℕ) (a b : List ℕ) → EndText records code offset a → EndText records code offset b → a ≡ b
  pub part : (answer : Answer) (a b : List ℕ) → PartText answer a → PartText answer b → a ≡ b

-- and a text tells one thing
pub record OneMeaning : Type 0 where
  pub number : (n m : ℕ) (text : List ℕ) → Decimal n text → Decimal m text → n ≡ m
  pub line : (ns ms text : List ℕ) → LineText ns text → LineText ms text → ns ≡ ms
  pub part : (x y : Answer) (text : List ℕ) → PartText x text → PartText y text → x ≡ y

-- what `partlog` prints of every two files; its numbers all have 32 bits
abbrev pub OurPrinted : Type 0
OurPrinted = (a b : List ℕ) → Bytes a → Bytes b → (text : List ℕ) → Printed a b text ↔ (text ≡ answer_text (inputs_of kinds a b))
