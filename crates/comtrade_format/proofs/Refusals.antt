-- What a file that isn't refused is known to have.
use Rattle.std.proofs.Common.{◌≡◌, ℕ, ◌+◌, Bool, true, false, Option, Some, None, length, refl, ◌<◌, arith}
use Rattle.std.proofs.lemmas.Bool.{and_parts}
use Rattle.std.proofs.lemmas.Bool.Decides.{nat_tests}
use Rattle.std.specs.List.{list_all}
use Rattle.comtrade_format.specs.declared.bounds.Bounds.{Bounds}
use Rattle.comtrade_format.specs.Parts.{HeadParts, RowParts, FileParts}
use Rattle.comtrade_format.specs.declared.fault.WriteFault.{WriteFault}
use Rattle.comtrade_format.specs.declared.fault.WriteFault.TheVariants as faults
use Rattle.comtrade_values.specs.Faults.{◌or◌, fault_unless}
use Rattle.comtrade_format.specs.Shape.{channels_fit, rates_counted, rates_end, is_some_of, is_writable, has_bounds, head_shaped, row_shaped, rows_shaped, is_shaped}
use Rattle.comtrade_format.specs.Refusals.{value_refusal, stamp_refusal, data_refusal, cfg_refusal, text_refusal}
use Rattle.dfr_channels.proofs.Lawful.{or-none, unless-none}

-- the parts of a head's shape
pub record Head (h : HeadParts) : Type 0 where
  pub channels : channels_fit (length h.analog) (length h.status) ≡ true
  pub rates : rates_counted h ≡ true
  pub first : is_writable h.first ≡ true
  pub trigger : is_writable h.trigger ≡ true
  pub bounds : list_all has_bounds h.analog ≡ true

pub head_parts : (h : HeadParts) → head_shaped h ≡ true → Head h
unfolding head_shaped
head_parts h e =
    let d = and_parts _ _ e in
    let c = and_parts _ _ d.0 in
    let b = and_parts _ _ c.1 in
    let a = and_parts _ _ c.0 in
    record { channels = a.0; rates = a.1; first = b.0; trigger = b.1; bounds = d.1 }

-- the parts of a file's shape
pub record Shaped (f : FileParts) : Type 0 where
  pub head : head_shaped f.head ≡ true
  pub counted : is_some_of (rates_end 0 f.head.rates) (length f.rows) ≡ true
  pub rows : rows_shaped f.head f.rows ≡ true

pub shaped_parts : (f : FileParts) → is_shaped f ≡ true → Shaped f
unfolding is_shaped
shaped_parts f e =
    let b = and_parts _ _ e in
    let a = and_parts _ _ b.0 in
    record { head = a.0; counted = a.1; rows = b.1 }

-- what a data file that isn't refused has
pub record Passes (m : Bounds) (f : FileParts) : Type 0 where
  pub shaped : is_shaped f ≡ true
  pub values : value_refusal m f.rows ≡ None
  pub stamps : stamp_refusal m f.rows ≡ None

pub passes : (m : Bounds) (f : FileParts) → data_refusal m f ≡ None → Passes m f
unfolding data_refusal
passes m f e =
    let first = or-none _ _ e in
    let second = or-none _ _ first.1 in
    record { shaped = unless-none _ _ first.0; values = second.0; stamps = second.1 }

pub cfg_shaped : (f : FileParts) → cfg_refusal f ≡ None → is_shaped f ≡ true
unfolding cfg_refusal
cfg_shaped f e = unless-none _ _ (or-none _ _ e).0

pub row_parts : (k n : ℕ) (r : RowParts) → row_shaped k n r ≡ true → (length r.values ≡ k) × (length r.bits ≡ n)
row_parts k n r e = (grind (arith, nat_tests), grind (arith, nat_tests))

pub bits_few : (k n : ℕ) (r : RowParts) → row_shaped k n r ≡ true → n < 1_000_000 → length r.bits < 1_000_000
bits_few k n r e h = grind (arith, nat_tests)

pub k_few : (k m : ℕ) → channels_fit k m ≡ true → k < 1_000_000
k_few k m e = grind (arith, nat_tests)

pub m_few : (k m : ℕ) → channels_fit k m ≡ true → m < 1_000_000
m_few k m e = grind (arith, nat_tests)

pub channels_few : (k m : ℕ) → channels_fit k m ≡ true → k + m < 1_000_000
channels_few k m e = grind (arith, nat_tests)

refused : (b : Bool) (r : Option WriteFault) → b ≡ false → (fault_unless b faults.Shape or r) ≡ Some faults.Shape
refused false r e = refl
refused true r e = cc

passed : (b : Bool) (r : Option WriteFault) → b ≡ true → (fault_unless b faults.Shape or r) ≡ r
passed true r e = refl
passed false r e = cc

pub data_unshaped : (m : Bounds) (f : FileParts) → is_shaped f ≡ false → data_refusal m f ≡ Some faults.Shape
unfolding data_refusal
data_unshaped m f e = refused (is_shaped f) _ e

pub data_shaped : (m : Bounds) (f : FileParts) → is_shaped f ≡ true → data_refusal m f ≡ (value_refusal m f.rows or stamp_refusal m f.rows)
unfolding data_refusal
data_shaped m f e = passed (is_shaped f) _ e

pub cfg_unshaped : (f : FileParts) → is_shaped f ≡ false → cfg_refusal f ≡ Some faults.Shape
unfolding cfg_refusal
cfg_unshaped f e = refused (is_shaped f) _ e

pub cfg_from_shaped : (f : FileParts) → is_shaped f ≡ true → cfg_refusal f ≡ text_refusal f.head
unfolding cfg_refusal
cfg_from_shaped f e = passed (is_shaped f) _ e
