-- No two places of a log decided its number, whatever gives the logs their numbers; and what gives the same numbers has the same places.
use Prim.Native.Nat.{ℕ, suc, ◌+◌, ◌-◌, ◌<◌}
use mathlib.Core.Path.{◌≡◌, sym, ap, ◌∙◌}
use mathlib.Core.List.{List, ◌++◌, append_assoc}
use native.Mathlib.Omega.{arith}
use native.Mathlib.Decide.{dec_lt}
use lib.ListN.{length, take, drop, take-append-drop}
use lib.Seq.{take-add}
use Rattle.log_number.specs.Promises.{Bytes}
use Rattle.log_number.proofs.Strings.{bytes_take, bytes_drop, bytes-both}
use Rattle.laws_format.specs.Deciding.{Decided, by_byte, by_end, OneDecided}

-- what follows a byte that decided is one log of many
from_byte : (number : List ℕ → ℕ) (log more : List ℕ) (p : ℕ) → Bytes log → Bytes more
    → ((rest : List ℕ) → Bytes rest → number (take (suc p) log ++ rest) ≡ number log) → number (log ++ more) ≡ number log
from_byte number log more p bs bm enough =
    let whole : log ++ more ≡ take (suc p) log ++ (drop (suc p) log ++ more) = ap (λ l. l ++ more) (sym (take-append-drop (suc p) log)) ∙ append_assoc (take (suc p) log) (drop (suc p) log) more in
    ap number whole ∙ enough (drop (suc p) log ++ more) (bytes-both (drop (suc p) log) more (bytes_drop (suc p) log bs) bm)

-- a log cut off behind a byte that decided has its number
not-later : (number : List ℕ → ℕ) (log : List ℕ) (p q : ℕ) → Bytes log → p < q → q < length log
    → ((rest : List ℕ) → Bytes rest → number (take (suc p) log ++ rest) ≡ number log) → number (take q log) ≡ number log
not-later number log p q bs later inside enough =
    let far : suc p + (q - suc p) ≡ q = omega arith in
    let parts : take q log ≡ take (suc p) log ++ take (q - suc p) (drop (suc p) log) = ap (λ k. take k log) (sym far) ∙ take-add (suc p) (q - suc p) log in
    ap number parts ∙ enough _ (bytes_take (q - suc p) (drop (suc p) log) (bytes_drop (suc p) log bs))

pub one-decided : OneDecided
one-decided number log bs p q (by_end here more bm other) (by_end there more' bm' other') = here ∙ sym there
one-decided number log bs p q (by_end here more bm other) (by_byte inside enough needed) = absurd (other (from_byte number log more q bs bm enough))
one-decided number log bs p q (by_byte inside enough needed) (by_end there more bm other) = absurd (other (from_byte number log more p bs bm enough))
one-decided number log bs p q (by_byte in_p enough needed) (by_byte in-q enough' needed') = go (dec_lt p q) (dec_lt q p)
  where
    go : Dec (p < q) → Dec (q < p) → p ≡ q
    go (yes l) d = absurd (needed' (not-later number log p q bs l in-q enough))
    go (no l) (yes m) = absurd (needed (not-later number log q p bs m in_p enough'))
    go (no l) (no m) = omega arith

-- of what gives the same numbers to byte strings
pub same_numbers : (f g : List ℕ → ℕ) → ((l : List ℕ) → Bytes l → f l ≡ g l) → (log : List ℕ) (place : ℕ) → Bytes log → Decided f log place → Decided g log place
same_numbers f g are log place bs (by_byte inside enough need) =
    by_byte inside
    (λ rest br. sym (are _ (bytes-both (take (suc place) log) rest (bytes_take (suc place) log bs) br)) ∙ enough rest br ∙ are log bs)
    (λ same. need (are _ (bytes_take place log bs) ∙ same ∙ sym (are log bs)))
same_numbers f g are log place bs (by_end there more bm other) =
    by_end there more bm (λ same. other (are _ (bytes-both log more bs bm) ∙ same ∙ sym (are log bs)))
