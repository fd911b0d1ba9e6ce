-- A row's access is its field's, and what every row has.
use Prim.Native.Nat.{ℕ}
use mathlib.Core.Path.{◌≡◌, sym, ap, subst}
use Rattle.state_table.specs.Packed.{field_at, row_of, FitsRow}
use Rattle.state_table.specs.declared.Row.{Row}
use Rattle.state_table.proofs.Tested.{field_fits}
use Rattle.state_table.proofs.Unpacked.{Fit, fit}

module _ (r : Row) (i : ℕ) (e : r ≡ row_of (field_at i)) where
  pub access-is : r.access ≡ (field_at i).access
  access-is = ap (λ (x : Row). x.access) e

  pub row_fits : Fit (field_at i)
  row_fits = fit (field_at i) (field_fits i)

  pub fits_row : FitsRow r
  fits_row =
      let f = row_fits in
      subst FitsRow (sym e) (record { address = f.address; low = f.low; width = f.width; one_word = f.one_word; second = f.second; access = f.access })
