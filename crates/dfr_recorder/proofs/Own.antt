-- Why a record matches its layout.
use Rattle.std.proofs.Common.{ℕ, zero, suc, ◌≡◌, ◌-◌, ◌*◌, ◌/◌, ◌≤◌, refl, Bool, true, false, All, List, [], ◌∷◌, length, Option, Some, None, arith}
use Rattle.std.specs.Prelude.{◌+◌, IsTrue, IfSome, option_map, is_none, replicate, eqb}
use Rattle.std.specs.List.{list_all}
use Rattle.std.proofs.lemmas.List.Elements.{All-head, All-tail}
use Rattle.std.proofs.lemmas.Bool.{leb-true, le-leb, eqb-true, eq-eqb, and_from, and_parts}
use Rattle.std.proofs.lemmas.List.{length-map, length-replicate}
use Rattle.std.proofs.lemmas.Nat.{le-div}
use Rattle.std.proofs.Math.Nat.{div-mul-le_self, div-zero}
use Rattle.comtrade_values.specs.Faults.{◌or◌, fault_unless}
use Rattle.dfr_channels.specs.Parts.{AnalogParts, StatusParts, SetupParts, ScanParts}
use Rattle.dfr_channels.specs.declared.scan.Reading.TheVariants as reading
use Rattle.dfr_channels.specs.Scans.{scan_fault, has_shape, lowest_out, micros}
use Rattle.dfr_channels.specs.declared.layout.ScanFault.{ScanFault}
use Rattle.dfr_channels.specs.declared.layout.ScanFault.TheVariants as fault
use Rattle.dfr_recorder.specs.declared.step.LostRefusal.TheVariants as lost_refused
use Rattle.dfr_recorder.specs.declared.step.ScanRefusal.TheVariants as refused
use Rattle.dfr_recorder.specs.Parts.{RecordParts}
use Rattle.dfr_recorder.specs.Limits.{has_stamps}
use Rattle.dfr_recorder.specs.Own.{passes, has_instant, is_own}
use Rattle.dfr_recorder.specs.History.{refusal, refusal_of, lost_refusal, bits_after, lost_scan}
use Rattle.dfr_recorder.specs.Sound.{Passes}

-- why a scan was accepted
accepted-by : (f : Option ScanFault) (b : Bool) → (option_map refusal_of f or fault_unless b refused.ClockEnd) ≡ None → (is_none f ≡ true) × (b ≡ true)
accepted-by None true e = (refl, refl)
accepted-by None false e = absurd (cc)
accepted-by (Some f) b e = absurd (cc)

pub accepted_law : (layout : SetupParts) (n : ℕ) (x : ScanParts) → refusal layout n x ≡ None → Passes layout x × IsTrue (has_instant layout n)
accepted_law layout n x e = accepted-by (scan_fault layout x) (has_instant layout n) e

-- a lost scan is accepted wherever it has an instant
missing-within : (i : ℕ) (channels : List AnalogParts) → lowest_out i channels (replicate (length channels) reading.Missing) ≡ None
missing-within i [] = refl
missing-within i (c ∷ channels) = missing-within (i + 1) channels

shape-of : (b : Bool) (f : Option ScanFault) → is_none (fault_unless b fault.Shape or f) ≡ true → b ≡ true
shape-of true f e = refl
shape-of false f e = absurd (cc)

bits-of : (layout : SetupParts) (x : ScanParts) → Passes layout x → length x.status ≡ length layout.status
unfolding scan_fault
bits-of layout x h = eqb-true (length x.status) (length layout.status) (and_parts _ _ (shape-of (has_shape layout x) (option_map fault.Range (lowest_out 0 layout.analog x.analog)) h)).1

bits-after : (layout : SetupParts) (before : Option ScanParts) → IfSome before (Passes layout) → length (bits_after layout before) ≡ length layout.status
bits-after layout None h = length-map layout.status (λ (channel : StatusParts). channel.normal)
bits-after layout (Some x) h = bits-of layout x h

lost-passes : (layout : SetupParts) (before : Option ScanParts) → IfSome before (Passes layout) → Passes layout (lost_scan layout before)
unfolding scan_fault
lost-passes layout before h =
    let readings : eqb (length (lost_scan layout before).analog) (length layout.analog) ≡ true = eq-eqb _ _ (length-replicate (length layout.analog) reading.Missing) in
    let bits : eqb (length (lost_scan layout before).status) (length layout.status) ≡ true = eq-eqb _ _ (bits-after layout before h) in
    rw (readings, bits, missing-within 0 layout.analog) refl

lost-by : (f : Option ScanFault) (b : Bool) → is_none f ≡ true → fault_unless b lost_refused.ClockEnd ≡ None → (option_map refusal_of f or fault_unless b refused.ClockEnd) ≡ None
lost-by None true p e = refl
lost-by None false p e = absurd (cc)
lost-by (Some f) b p e = absurd (cc)

pub lost_law : (layout : SetupParts) (n : ℕ) (before : Option ScanParts) → IfSome before (Passes layout) → lost_refusal layout n ≡ None → refusal layout n (lost_scan layout before) ≡ None
lost_law layout n before h e = lost-by (scan_fault layout (lost_scan layout before)) (has_instant layout n) (lost-passes layout before h) e

-- the stamps of fewer rows are lower
micros-le : (rate i j : ℕ) → i ≤ j → micros rate i ≤ micros rate j
micros-le zero i j le = omega (arith, div-zero (i * 1000000), div-zero (j * 1000000))
micros-le (suc r) i j le = le-div (i * 1000000 / suc r) (j * 1000000) (suc r) (omega arith) (omega (arith, div-mul-le_self (i * 1000000) (suc r)))

fewer-stamps : (rate m n : ℕ) → m ≤ n → IsTrue (has_stamps rate n) → IsTrue (has_stamps rate m)
fewer-stamps rate m n le h = le-leb (micros rate (m - 1)) 4294967294 (omega (arith, micros-le rate (m - 1) (n - 1) (omega arith), leb-true (micros rate (n - 1)) 4294967294 h))

all-pass : (layout : SetupParts) (scans : List ScanParts) → All (Passes layout) scans → list_all (passes layout) scans ≡ true
all-pass layout [] h = refl
all-pass layout (x ∷ xs) h = and_from (passes layout x) (list_all (passes layout) xs) (All-head (Passes layout) x xs h) (all-pass layout xs (All-tail (Passes layout) x xs h))

pub own_record : (layout : SetupParts) (longest : ℕ) (r : RecordParts) → All (Passes layout) r.scans → IsTrue (has_instant layout r.extent.last) → length r.scans ≤ longest → IsTrue (has_stamps layout.rate longest) → IsTrue (is_own layout r)
unfolding is_own
own_record layout longest r pass timed short stamped =
    and_from _ _ (and_from _ _ (all-pass layout r.scans pass) timed) (fewer-stamps layout.rate (length r.scans) longest short stamped)
