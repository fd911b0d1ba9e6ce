-- 01, "What the contracts owe": "Show that equal inputs allow one outcome". An outcome is a call's result and the bytes that were lent to it, as they are at its end. A
-- promise, `ReadPromise log place r`, is what a call's contract says of its outcome at some inputs; the contract cites it by its name.
use Rattle.std.specs.Prelude.{◌≡◌, ℕ, ◌≤◌, List}

-- a promise allows one outcome: any two that it allows are the same
abbrev pub One : {A : Type 0} → (A → Type 0) → Type 0
One {A = A} allowed = (a b : A) → allowed a → allowed b → a ≡ b

-- a promise of two things, or of three, as one of what they are together: a result and the bytes of one or two lent parts
abbrev pub OfTwo : {A B : Type 0} → (A → B → Type 0) → A × B → Type 0
OfTwo promise outcome = promise outcome.0 outcome.1

abbrev pub OfThree : {A B C : Type 0} → (A → B → C → Type 0) → A × (B × C) → Type 0
OfThree promise outcome = promise outcome.0 outcome.1.0 outcome.1.1

-- what is told of a result settles it: no two results are told alike
abbrev pub Settled : {A B : Type 0} → (A → B) → Type 0
Settled {A = A} told = (a b : A) → told a ≡ told b → a ≡ b

-- the form of our promises: what is told of the result is what a definition gives
abbrev pub Tells : {A B : Type 0} → (A → B) → B → A → Type 0
Tells told given a = told a ≡ given

-- the form where bytes are lent: the same of the result, and the bytes are what a definition gives
abbrev pub TellsBytes : {A B : Type 0} → (A → B) → B → List ℕ → A → List ℕ → Type 0
TellsBytes told given bytes a after = (told a ≡ given) × (after ≡ bytes)

-- the form of a number that is what a definition gives, with the most that it can be
abbrev pub TellsAtMost : ℕ → ℕ → ℕ → Type 0
TellsAtMost given most a = (a ≡ given) × (a ≤ most)

-- the theorem: a promise of the first two forms, with a telling that settles the result, allows one outcome, whatever its definitions give at the inputs
abbrev pub ContractSettles : Type 1
ContractSettles = (A B : Type 0) (told : A → B) → Settled told → (given : B) → One (Tells told given)

abbrev pub ContractSettlesBytes : Type 1
ContractSettlesBytes = (A B : Type 0) (told : A → B) → Settled told → (given : B) (bytes : List ℕ) → One (OfTwo (TellsBytes told given bytes))

-- so does one of the third form
abbrev pub BoundedSettles : Type 0
BoundedSettles = (given most : ℕ) → One (TellsAtMost given most)

-- a result that is told as it is
abbrev pub itself : {A : Type 0} → A → A
itself a = a

-- and every promise `r ≡ ..`, the leaves' and all others that have no name: the result is what a definition gives
abbrev pub PlainSettles : Type 1
PlainSettles = (A : Type 0) (given : A) → One (Tells itself given)
