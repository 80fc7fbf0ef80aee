-- The first event of a contact.
use Rattle.std.proofs.Common.{◌≡◌, ℕ, ◌+◌, ◌<◌, Bool, List, Option, Some, None, ◌-◌, option_map, sym, ap, subst, arith, below_more}
use Rattle.comtrade_format.specs.Parts.{RowParts}
use Rattle.comtrade_analysis.specs.Events.{bit_at, change, event_at, IsSteady, IsFirstEvent}
use Rattle.comtrade_analysis.specs.declared.events.Event.{Event}

row_of : (o : Option Bool) (row channel : ℕ) (e : Event) → option_map (λ (closed : Bool). record { row = row; channel = channel; closed = closed }) o ≡ Some e → e.row ≡ row
row_of (Some b) row channel e h = let same : record { row = row; channel = channel; closed = b } ≡ e = cc in ap (λ (x : Event). x.row) (sym same)
row_of None row channel e h = let no : ⊥ = cc in absurd no

module _ (rows : List RowParts) (channel row n : ℕ) where
  pub first_is : (e : Event) → 0 < row → row < n → event_at rows row channel ≡ Some e → IsSteady rows channel row → IsFirstEvent rows channel n (Some e)
  first_is e some within is steady =
      let same : e.row ≡ row = row_of (change (bit_at rows channel (row - 1)) (bit_at rows channel row)) row channel e is in (
        omega arith,
        omega arith,
        subst (λ (k : ℕ). event_at rows k channel ≡ Some e) (sym same) is,
        subst (λ (k : ℕ). IsSteady rows channel k) (sym same) steady,
      )

pub steady_more : (rows : List RowParts) (channel n : ℕ) → IsSteady rows channel n → event_at rows n channel ≡ None → IsSteady rows channel (n + 1)
steady_more rows channel n h is =
    λ k some lt. below_more (λ (j : ℕ). 0 < j → event_at rows j channel ≡ None) n (λ j less more. h j more less) (λ more. is) k lt some
