-- The number of the rules: what a log means to this library.
use Rattle.std.specs.Prelude.{ℕ, ◌≡◌}
use Rattle.c_image.specs.Images.{image_format}

-- "CHEUKDANE_RULES": a number that every landing moves which changes what a log means. Two heads with other rules and one log would part.
abbrev pub rules_number : ℕ
rules_number = 8

-- an image's format moves with the rules, so that no model is carried over from others: the two are one number
abbrev pub FormatIsRules : Type 0
FormatIsRules = image_format ≡ rules_number
