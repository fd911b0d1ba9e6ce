-- The phase rule over its tests alone: what settling makes of them, against the account's one list.
use mathlib.Core.Path.{◌≡◌, refl, sym}
use mathlib.Core.Bool.{Bool, true, false, not, ◌&&◌, ◌||◌, true≢false}
use lib.Dec.{leb, ltb, eqb}
use Rattle.base.specs.Pick.{pick}
use Rattle.state_parts.specs.Numbers.{phase_number}
use Rattle.state_parts.specs.declared.phase.Phase.{Phase}
use Rattle.state_parts.specs.declared.phase.Phase.TheVariants.{Idle, Trickle, Precharge, Fast, Taper, Done, Suspended, Fault}
use Rattle.settle_phases.specs.Order.{judged_of, restarts_of, clears_of, ends_of, phase_of}
use Rattle.settle_phases.specs.declared.tests.Tests.{Tests}

-- the account's list
abbrev pub listed : Tests → Phase
listed t =
    pick (not t.permitted) Idle
    (pick t.fault Fault
    (pick t.suspended Suspended
    (pick (t.done && not t.recharge || t.observed && t.tapered && (not t.short && not t.low && t.taper && t.ending)) Done
    (pick t.short Trickle
    (pick t.low Precharge
    (pick t.taper Taper
    Fast))))))

pub record Same (t : Tests) : Type 0 where
  pub phase : phase_of t ≡ listed t
  pub done : (ends_of t || (not (clears_of t) && t.done)) ≡ (eqb (phase_number (listed t)) 5 || leb 5 (phase_number (listed t)) && t.done)
  pub clear : clears_of t ≡ (not t.permitted || t.done && ltb (phase_number (listed t)) 5)

abbrev tests : Bool → Bool → Bool → Bool → Bool → Bool → Bool → Bool → Bool → Bool → Bool → Tests
tests pm f s d re sh lo ta ob tp en = record {
  permitted = pm;
  fault = f;
  suspended = s;
  done = d;
  recharge = re;
  short = sh;
  low = lo;
  taper = ta;
  observed = ob;
  tapered = tp;
  ending = en;
}

-- a cycle that is done isn't in phase 4
same : (pm f s d re sh lo ta ob tp en : Bool) → (d && (ob && tp)) ≡ false → Same (tests pm f s d re sh lo ta ob tp en)
unfolding judged_of restarts_of clears_of ends_of phase_of
same false f s d re sh lo ta ob tp en h = record { phase = refl; done = refl; clear = refl }
same true true s true re sh lo ta ob tp en h = record { phase = refl; done = refl; clear = refl }
same true true s false re sh lo ta ob tp en h = record { phase = refl; done = refl; clear = refl }
same true false true true re sh lo ta ob tp en h = record { phase = refl; done = refl; clear = refl }
same true false true false re sh lo ta ob tp en h = record { phase = refl; done = refl; clear = refl }
same true false false true false sh lo ta ob tp en h = record { phase = refl; done = refl; clear = refl }
same true false false true true sh lo ta true true en h = absurd (true≢false h)
same true false false true true true lo ta true false en h = record { phase = refl; done = refl; clear = refl }
same true false false true true false true ta true false en h = record { phase = refl; done = refl; clear = refl }
same true false false true true false false true true false en h = record { phase = refl; done = refl; clear = refl }
same true false false true true false false false true false en h = record { phase = refl; done = refl; clear = refl }
same true false false true true true lo ta false tp en h = record { phase = refl; done = refl; clear = refl }
same true false false true true false true ta false tp en h = record { phase = refl; done = refl; clear = refl }
same true false false true true false false true false tp en h = record { phase = refl; done = refl; clear = refl }
same true false false true true false false false false tp en h = record { phase = refl; done = refl; clear = refl }
same true false false false re true lo ta true true en h = record { phase = refl; done = refl; clear = refl }
same true false false false re false true ta true true en h = record { phase = refl; done = refl; clear = refl }
same true false false false re false false true true true false h = record { phase = refl; done = refl; clear = refl }
same true false false false re false false true true true true h = record { phase = refl; done = refl; clear = refl }
same true false false false re false false false true true en h = record { phase = refl; done = refl; clear = refl }
same true false false false re true lo ta true false en h = record { phase = refl; done = refl; clear = refl }
same true false false false re false true ta true false en h = record { phase = refl; done = refl; clear = refl }
same true false false false re false false true true false en h = record { phase = refl; done = refl; clear = refl }
same true false false false re false false false true false en h = record { phase = refl; done = refl; clear = refl }
same true false false false re true lo ta false tp en h = record { phase = refl; done = refl; clear = refl }
same true false false false re false true ta false tp en h = record { phase = refl; done = refl; clear = refl }
same true false false false re false false true false tp en h = record { phase = refl; done = refl; clear = refl }
same true false false false re false false false false tp en h = record { phase = refl; done = refl; clear = refl }

pub same-rule : (t : Tests) → (t.done && (t.observed && t.tapered)) ≡ false → Same t
same-rule t h =
    same t.permitted t.fault t.suspended t.done t.recharge t.short t.low t.taper t.observed t.tapered t.ending h

-- a cycle starts again exactly where phase 5 would hold and VBAT is below the recharge point
restart : (pm nf ns d re x : Bool) → (not pm || (pm && nf && ns && d && re)) ≡ (not pm || x) → (pm && x) ≡ (pm && nf && ns && d && re)
restart true nf ns d re x h = sym h
restart false nf ns d re x h = refl

pub restart-rule : (t : Tests) → Same t
    → (t.permitted && (t.done && ltb (phase_number (listed t)) 5)) ≡ (t.permitted && not t.fault && not t.suspended && t.done && t.recharge)
unfolding clears_of restarts_of
restart-rule t k = restart t.permitted (not t.fault) (not t.suspended) t.done t.recharge (t.done && ltb (phase_number (listed t)) 5) k.clear
