-- A run may be split where a register starts.
use Rattle.std.specs.Prelude.{ℕ, ◌+◌, ◌<◌, ◌≡◌, true, false}
use Rattle.log_raw.specs.Raw.{Raw, byte_of, has_spelling}
use Rattle.state_parts.specs.declared.profile.Profile.{Profile}
use Rattle.state_parts.specs.declared.state.State.{State}
use Rattle.state_valid.specs.Holds.{state_ok}
use Rattle.state_runs.specs.Runs.{in_middle, written_run}

-- a run's bytes as those of two, one behind the other, where a register starts
pub record Split (p : Profile) (first : ℕ) (all front back : Raw) : Type 0 where
  pub front-spelled : has_spelling front ≡ true
  pub back-spelled : has_spelling back ≡ true
  pub all-spelled : has_spelling all ≡ true
  pub long : all.count ≡ front.count + back.count
  pub in-front : (i : ℕ) → i < front.count → byte_of all i ≡ byte_of front i
  pub behind : (i : ℕ) → i < back.count → byte_of all (front.count + i) ≡ byte_of back i
  pub between : in_middle p (first + front.count) ≡ false

-- "Registers are taken in ascending order": what a run writes, before reset and service bits act, is what its registers write one run after the other
abbrev pub RunsSplit : Type 0
RunsSplit = (s : State) (first : ℕ) (all front back : Raw) → state_ok s ≡ true → Split s.profile first all front back
    → written_run s first all ≡ written_run (written_run s first front) (first + front.count) back
