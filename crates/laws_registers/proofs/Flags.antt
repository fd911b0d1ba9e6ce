-- A read of 0x20 and then of 0x21 takes the flags as kind 4 does.
use Prim.Native.Nat.{ℕ, ◌+◌, ◌*◌, ◌/◌, ◌%◌, ◌^◌, ◌≤◌}
use mathlib.Core.Path.{◌≡◌, refl, sym, ap, subst, ◌∙◌}
use mathlib.Core.Bool.{true, false, not}
use native.Mathlib.Omega.{arith}
use lib.Dec.{eqb}
use Rattle.base.specs.Pick.{bit_of}
use Rattle.report_registers.specs.Reads.{value_by, flag_byte}
use Rattle.state_fields.specs.Words.{bits_at}
use Rattle.state_fields.proofs.Puts.{same-below, same_above}
use Rattle.settle_all.specs.Settle.{forced_of, settled_of, settle_of}
use Rattle.settle_all.proofs.Rules.{each-settles-once}
use Rattle.state_parts.specs.Edges.{merged, pulse_of, no_flags}
use Rattle.state_parts.specs.With.{with_flags}
use Rattle.state_parts.specs.declared.profile.Profile.{Profile}
use Rattle.state_parts.specs.declared.state.State.{State}
use Rattle.state_parts.specs.declared.state.Model.TheVariants.{On}
use Rattle.state_table.specs.Rows.{fields, fields_of}
use Rattle.state_valid.specs.Holds.{state_ok}
use Rattle.step_turns.specs.declared.later.Later.TheVariants.{ReadFlags}
use Rattle.step_turns.specs.declared.turn.Turn.TheVariants.{Follows}
use Rattle.step_flags.specs.Edges.{seen_of, edges_of}
use Rattle.step_kinds.specs.Answers.{Outcome}
use Rattle.step_kinds.specs.Finish.{finish_of}
use Rattle.step_kinds.specs.Plain.{read_flags_of}
use Rattle.step_event.specs.Steps.{followed_of, moved_of, change_of, model_ok, seen_on, turned_by}
use Rattle.step_event.proofs.Keeps.{turned-passes}
use Rattle.laws_step.proofs.TakenFlags.{flagged-settles, no-edges, merged-none, no-pulse}
use Rattle.laws_registers.specs.Flags.{taken, first_read, second_read, TwoReads, ClearsItsOwn}

-- ---- the two bytes by the flags' bits: PG_FLAG by the first two together
abbrev some : ℕ → ℕ
some bits = bit_of (not (eqb bits 0)) % 2

abbrev charger_from : ℕ → ℕ → ℕ → ℕ → ℕ → ℕ → ℕ → ℕ
charger_from power second third fourth fifth sixth seventh =
    (0 + some sixth * 1 + some seventh * 2 + 0 + some fifth * 8 + some fourth * 16 + some third * 32 + some second * 64 + some power * 128) % 256

abbrev fault_from : ℕ → ℕ → ℕ → ℕ → ℕ
fault_from eighth ninth tenth eleventh = (0 + some ninth * 8 + 0 + some eleventh * 32 + some tenth * 64 + some eighth * 128) % 256

charger-is : (p : Profile) (n : ℕ) → flag_byte p 0x20 n ≡ charger_from (bits_at 0 2 n) (bits_at 2 1 n) (bits_at 3 1 n) (bits_at 4 1 n) (bits_at 5 1 n) (bits_at 6 1 n) (bits_at 7 1 n)
unfolding flag_byte value_by fields_of fields
charger-is p n = refl

fault-is : (p : Profile) (n : ℕ) → flag_byte p 0x21 n ≡ fault_from (bits_at 8 1 n) (bits_at 9 1 n) (bits_at 10 1 n) (bits_at 11 1 n)
unfolding flag_byte value_by fields_of fields
fault-is p n = refl

-- so the one goes by the eight lowest flags, and the other by those above them
module _ (p : Profile) (m n : ℕ) where
  same-charger : m % 2 ^ 8 ≡ n % 2 ^ 8 → flag_byte p 0x20 m ≡ flag_byte p 0x20 n
  same-charger e =
      let bit : (k j : ℕ) → k + j ≤ 8 → bits_at k j m ≡ bits_at k j n = λ k j l. same-below 8 k j m n l e in
      let at : (k : ℕ) → k + 1 ≤ 8 → bits_at k 1 m ≡ bits_at k 1 n = λ k l. bit k 1 l in
      let power = bit 0 2 (omega arith) in
      charger-is p m
      ∙ (λ i. charger_from (power i) (at 2 (omega arith) i) (at 3 (omega arith) i) (at 4 (omega arith) i) (at 5 (omega arith) i) (at 6 (omega arith) i) (at 7 (omega arith) i))
      ∙ sym (charger-is p n)

  same-fault : m / 2 ^ 8 ≡ n / 2 ^ 8 → flag_byte p 0x21 m ≡ flag_byte p 0x21 n
  same-fault e =
      let at : (k : ℕ) → 8 ≤ k → bits_at k 1 m ≡ bits_at k 1 n = λ k l. same_above 8 k 1 m n l e in
      fault-is p m ∙ (λ i. fault_from (at 8 (omega arith) i) (at 9 (omega arith) i) (at 10 (omega arith) i) (at 11 (omega arith) i)) ∙ sym (fault-is p n)

pub clears-its-own : ClearsItsOwn
clears-its-own p n =
    record {
      first-cleared = same-charger p (n / 256 * 256) 0 (omega arith) ∙ charger-is p 0;
      second-cleared = same-fault p (n % 256) 0 (omega arith) ∙ fault-is p 0;
      second-stands = same-fault p (n / 256 * 256) n (omega arith);
      first-stands = same-charger p (n % 256) n (omega arith);
    }

module _ (s : State) (ok : state_ok s ≡ true) where
  -- the state settled, and all flags then
  abbrev after : State
  after = settle_of s false

  abbrev all : ℕ
  all = merged s.flags (edges_of (seen_of s) (seen_of after))

  taken_is : taken s ≡ record { number = 0; place = 0; model = On (with_flags after no_flags); pulse = pulse_of (edges_of (seen_of s) (seen_of after)) after.settings.masks; handed = all }
  unfolding turned_by change_of moved_of followed_of seen_on finish_of
  taken_is = simp ok

  -- the flags that the first read leaves
  abbrev left : ℕ
  left = all / 256 * 256

  abbrev between : State
  between = with_flags after left

  first-is : first_read s ≡ record { number = 0; place = 0; model = On between; pulse = pulse_of (edges_of (seen_of s) (seen_of after)) after.settings.masks; handed = flag_byte after.profile 0x20 all }
  unfolding turned_by change_of moved_of followed_of read_flags_of seen_on finish_of
  first-is = simp ok

  between-ok : state_ok between ≡ true
  unfolding model_ok
  between-ok =
      subst (λ (o : Outcome). model_ok o.model ≡ true) first-is
      (turned-passes (On s) (Follows (ReadFlags 0x20)) refl (ap (λ (o : Outcome). o.number) first-is))

  -- it is settled
  between-settled : settle_of between false ≡ between
  between-settled = flagged-settles after left false ∙ ap (λ (t : State). with_flags t left) (each-settles-once.ours s false)

  second_is : second_read s ≡ record { number = 0; place = 0; model = On (with_flags after no_flags); pulse = false; handed = flag_byte after.profile 0x21 left }
  unfolding turned_by change_of moved_of followed_of read_flags_of seen_on finish_of
  second_is =
      let none : left % 256 ≡ 0 = omega arith in
      ap (λ (o : Outcome). turned_by o.model (Follows (ReadFlags 0x21))) first-is
      ∙ simp (between-ok, between-settled, no-edges (seen_of between), merged-none left, no-pulse after.settings.masks, none)

  same-profile : after.profile ≡ s.profile
  unfolding settle_of settled_of forced_of
  same-profile = refl

pub two-reads : TwoReads
two-reads s ok =
    record {
      model = ap (λ (o : Outcome). o.model) (second_is s ok) ∙ sym (ap (λ (o : Outcome). o.model) (taken_is s ok));
      first-accepted = ap (λ (o : Outcome). o.number) (first-is s ok);
      second-accepted = ap (λ (o : Outcome). o.number) (second_is s ok);
      first-pulse = ap (λ (o : Outcome). o.pulse) (first-is s ok) ∙ sym (ap (λ (o : Outcome). o.pulse) (taken_is s ok));
      second-pulse = ap (λ (o : Outcome). o.pulse) (second_is s ok);
      first-byte = ap (λ (o : Outcome). o.handed) (first-is s ok) ∙ ap (λ (p : Profile). flag_byte p 0x20 (all s ok)) (same-profile s ok)
          ∙ sym (ap (λ (o : Outcome). flag_byte s.profile 0x20 o.handed) (taken_is s ok));
      second-byte = ap (λ (o : Outcome). o.handed) (second_is s ok) ∙ (clears-its-own (after s ok).profile (all s ok)).second-stands ∙ ap (λ (p : Profile). flag_byte p 0x21 (all s ok)) (same-profile s ok)
          ∙ sym (ap (λ (o : Outcome). flag_byte s.profile 0x21 o.handed) (taken_is s ok));
    }
