-- The account, the flags: which edges an event brings, and which flags are held after a run.
use Rattle.std.specs.Prelude.{ℕ, ◌+◌, ◌*◌, ◌/◌, ◌%◌, ◌^◌, Bool, true, false, not, ◌&&◌, ◌||◌, List, [], ◌∷◌, leb, ltb, eqb}
use Rattle.base.specs.Pick.{pick, bit_of}
use Rattle.report_registers.specs.Reads.{flag_byte}
use Rattle.state_parts.specs.Numbers.{phase_number, band_number}
use Rattle.state_parts.specs.declared.phase.Phase.{Phase}
use Rattle.settle_permission.specs.Bits.{iindpm_of, vindpm_of, thermal_of, shutdown_of}
use Rattle.laws_account.specs.History.{Run, powered, ◌▸◌, since}
use Rattle.step_turns.specs.declared.later.Later.TheVariants.{Set, Write, TakeFlags, Observe, Service, Reset, WriteRun, ReadFlags}
use Rattle.laws_account.specs.Held.{profile_of, sample_of, expired}
use Rattle.laws_account.specs.Valued.{setting_of}
use Rattle.laws_account.specs.Judged.{input_good, input_over, pack_over}
use Rattle.laws_account.specs.Bands.{band_at}
use Rattle.laws_account.specs.Cycles.{limit_reached}

-- the twelve flags, bit 0 to bit 11
pub data Flag : Type 0 where
  good lost iindpm vindpm thermal expiry phase band inputover shutdown packover limit : Flag

abbrev pub place_of : Flag → ℕ
place_of good = 0
place_of lost = 1
place_of iindpm = 2
place_of vindpm = 3
place_of thermal = 4
place_of expiry = 5
place_of phase = 6
place_of band = 7
place_of inputover = 8
place_of shutdown = 9
place_of packover = 10
place_of limit = 11

abbrev pub every_flag : List Flag
every_flag = good ∷ lost ∷ iindpm ∷ vindpm ∷ thermal ∷ expiry ∷ phase ∷ band ∷ inputover ∷ shutdown ∷ packover ∷ limit ∷ []

-- the number of some flags: each for which a test holds adds its bit
abbrev pub sum_of : (Flag → Bool) → List Flag → ℕ
sum_of test [] = 0
sum_of test (k ∷ ks) = bit_of (test k) * 2 ^ place_of k + sum_of test ks

abbrev pub flags_by : (Flag → Bool) → ℕ
flags_by test = sum_of test every_flag

-- a test holds for some flag
abbrev pub any_of : (Flag → Bool) → List Flag → Bool
any_of test [] = false
any_of test (k ∷ ks) = test k || any_of test ks

-- "Flags, on an edge between the state before the event and the state after settling": two moments, one event apart
abbrev pub begins : (Run → Bool) → Run → Bool
begins q (powered p) = false
begins q (r ▸ e) = not (q r) && q (r ▸ e)

abbrev pub ends : (Run → Bool) → Run → Bool
ends q (powered p) = false
ends q (r ▸ e) = not (q (r ▸ e)) && q r

abbrev pub changes : (Run → ℕ) → Run → Bool
changes f (powered p) = false
changes f (r ▸ e) = not (eqb (f r) (f (r ▸ e)))

-- 02, R-3: a flag register's own flags, "bits 0-7 for 0x20, 8-11 for 0x21"
abbrev pub is_in : ℕ → Flag → Bool
is_in address k = pick (eqb address 0x20) (ltb (place_of k) 8) (leb 8 (place_of k))

-- a flag is taken: "hands back the held flags and clears them"; a "read of a flag register clears its own flags"
unfoldable pub was_taken : Flag → Run → Bool
was_taken k (powered p) = false
was_taken k (r ▸ Set number value) = false
was_taken k (r ▸ Write address byte) = false
was_taken k (r ▸ TakeFlags) = true
was_taken k (r ▸ Observe x) = false
was_taken k (r ▸ Service) = false
was_taken k (r ▸ Reset) = false
was_taken k (r ▸ WriteRun first raw) = false
was_taken k (r ▸ ReadFlags address) = is_in address k

-- a flag's bit of the masks, setting 14, is 0
abbrev pub unmasked : Flag → Run → Bool
unmasked k r = eqb (setting_of 14 r / 2 ^ place_of k % 2) 0

module _ (P : Run → Phase) where
  -- "bit 0 input good, 1 input lost, 2-4 IINDPM, VINDPM, thermal regulation begin, 5 watchdog expired, 6 phase changed, 7 band changed, 8 VIN over, 9 thermal shutdown,
  -- 10 battery over, 11 a first limit reached."
  unfoldable pub edge : Flag → Run → Bool
  edge good = begins input_good
  edge lost = ends input_good
  edge iindpm = begins (λ m. iindpm_of (sample_of m))
  edge vindpm = begins (λ m. vindpm_of (sample_of m))
  edge thermal = begins (λ m. thermal_of (sample_of m))
  edge expiry = begins expired
  edge phase = changes (λ m. phase_number (P m))
  edge band = changes (λ m. band_number (band_at m))
  edge inputover = begins input_over
  edge shutdown = begins (λ m. shutdown_of (sample_of m))
  edge packover = begins pack_over
  edge limit = begins (limit_reached P)

  -- "Power-on sets flags to 32": bit 5
  abbrev pub raised : Flag → Run → Bool
  raised k (powered p) = eqb (place_of k) 5
  raised k (r ▸ e) = edge k (r ▸ e)

  -- a flag is held from its edge on until the flags are taken, those of that event too
  unfoldable pub flagged : Flag → Run → Bool
  flagged k = since (λ m. not (was_taken k m)) (λ m. not (was_taken k m) && raised k m)

  -- the flags that an event finds: held before it, or raised by it
  unfoldable pub is_found : Flag → Run → Bool
  is_found k (powered p) = false
  is_found k (r ▸ e) = flagged k r || edge k (r ▸ e)

  -- "take flags | none; hands back the held flags and clears them"; a read of a flag register hands back its byte, as it reads with them; no other event hands any back
  unfoldable pub handed_back : Run → ℕ
  handed_back (powered p) = 0
  handed_back (r ▸ Set number value) = 0
  handed_back (r ▸ Write address byte) = 0
  handed_back (r ▸ TakeFlags) = flags_by (λ k. is_found k (r ▸ TakeFlags))
  handed_back (r ▸ Observe x) = 0
  handed_back (r ▸ Service) = 0
  handed_back (r ▸ Reset) = 0
  handed_back (r ▸ WriteRun first raw) = 0
  handed_back (r ▸ ReadFlags address) = flag_byte (profile_of r) address (flags_by (λ k. is_found k (r ▸ ReadFlags address)))

  -- "One pulse per event with an unmasked edge, by the masks after it." "Power-on sets flags to 32 and pulses."
  unfoldable pub pulsed : Run → Bool
  pulsed (powered p) = true
  pulsed (r ▸ e) = any_of (λ k. edge k (r ▸ e) && unmasked k (r ▸ e)) every_flag
