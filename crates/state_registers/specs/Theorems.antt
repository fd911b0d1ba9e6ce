-- What is proved of the table and the settings together, by one test that the checker computes over the table.
use Rattle.std.specs.Prelude.{ℕ, ◌*◌, ◌/◌, ◌^◌, ◌<◌, ◌≡◌, true}
use Rattle.state_parts.specs.declared.profile.Profile.{Profile}
use Rattle.state_settings.specs.Ranges.{may_hold}
use Rattle.state_table.specs.Packed.{field_at}
use Rattle.state_table.specs.declared.Access.TheVariants.{Setting}

-- a field that is a setting can say every value that the setting may hold, its start values among them: the value is so many of the field's steps, and its code fits the field
abbrev pub EveryValueSaid : Type 0
EveryValueSaid = (p : Profile) (i n step v : ℕ) → (field_at i).access ≡ Setting n step → may_hold p n v ≡ true
    → (v / step * step ≡ v) × (v / step < 2 ^ (field_at i).width)
