-- A run begins with what its power-on's own numbers say, and with nothing else.
use Prim.Native.Nat.{ℕ}
use mathlib.Core.Path.{◌≡◌, refl, ap, ◌∙◌}
use mathlib.Core.Bool.{Bool, true, false}
use mathlib.Core.Logic.{◌⊎◌, inl, inr}
use native.Mathlib.Omega.{arith}
use lib.Dec.{eqb}
use Rattle.base.specs.Pick.{pick}
use Rattle.state_parts.specs.declared.profile.Profile.{Profile}
use Rattle.step_turns.specs.Begins.{Begins}
use Rattle.step_turns.specs.Turns.{turn_of}
use Rattle.step_turns.specs.declared.later.Later.{Later}
use Rattle.step_turns.specs.declared.turn.Turn.{Turn}
use Rattle.step_turns.specs.declared.turn.Turn.TheVariants.{Opens, Follows, OpensOutside, FollowsOutside}
use Rattle.step_turns.proofs.Beginning.{begins-as-said}
use Rattle.laws_account.specs.History.{Run, powered, ◌▸◌}
use Rattle.laws_account.specs.Held.{profile_of}
use Rattle.laws_account.specs.Refused.{Past, none, some, refusal_in, refusal_by, refusal_of, next_by, next_of}
use Rattle.laws_account.specs.Runs.{RunBegins, EveryRunBegins, NoOtherBegins}

pub every-run-begins : EveryRunBegins
unfolding refusal_of next_of
every-run-begins h e p b = by (begins-as-said.opens e p b)
  where
    by : (turn_of e ≡ Opens p) ⊎ (turn_of e ≡ OpensOutside) → RunBegins h e p
    by (inl o) = record { with = λ z. ap (next_by h) o; else = λ n. absurd (n (ap (refusal_by h) o)) }
    by (inr o) = record {
      with = λ z. absurd (let five = ap (refusal_by h) o in omega (arith, five, z));
      else = λ n. (ap (refusal_by h) o, ap (next_by h) o);
    }

-- whether what has come before is a power-on alone, and the profile that its run began with
abbrev alone : Past → ℕ
alone none = 0
alone (some (powered p)) = 1
alone (some (r ▸ e)) = 0

abbrev begun : Profile → Past → Profile
begun other none = other
begun other (some r) = profile_of r

not-alone : {A : Type 0} (h : Past) (p : Profile) → alone h ≡ 0 → h ≡ some (powered p) → A
not-alone h p z e = absurd (let y : alone h ≡ 1 = ap alone e in omega (arith, y, z))

pub no-other-begins : NoOtherBegins
unfolding next_of profile_of
no-other-begins h e p z = by h (turn_of e) refl z
  where
    followed : (r : Run) (f : Later) (t : Bool) → some (pick t (r ▸ f) r) ≡ some (powered p) → some r ≡ some (powered p)
    followed r f true z = not-alone (some (r ▸ f)) p refl z
    followed r f false z = z

    by : (h : Past) (t : Turn) → turn_of e ≡ t → next_by h t ≡ some (powered p) → (Begins e p) ⊎ (h ≡ some (powered p))
    by h (Opens q) o z = inl (begins-as-said.said e p (o ∙ ap Opens (ap (begun q) z)))
    by none (Follows f) o z = not-alone none p refl z
    by (some r) (Follows f) o z = inr (followed r f (eqb (refusal_in r f) 0) z)
    by h OpensOutside o z = inr z
    by h FollowsOutside o z = inr z
