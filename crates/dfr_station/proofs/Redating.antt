-- The files of a record with other instants.
use Rattle.std.specs.Prelude.{◌≡◌, ◌⊎◌, ℕ, ◌-◌, ℤ, pos, ◌+ℤ◌, int_le, Bool, true, false, ◌||◌, nat_lt, List, ◌++◌, length, Option, Some, None, IfSome, if◌then◌else◌}
use Rattle.std.proofs.Common.{arith, refl, sym, ap, subst, ◌∙◌, inl, inr, append_assoc, length-append}
use Rattle.std.proofs.Math.Seq.{take-append_seam}
use Rattle.std.specs.List.{flat_map}
use Rattle.std.proofs.lemmas.List.Concat.{flat_map-append}
use Rattle.comtrade_format.specs.Cfg.{cfg, head_lines, channel_lines, rate_lines, last_lines}
use Rattle.comtrade_format.specs.Data.{dat}
use Rattle.comtrade_format.specs.Lines.{line}
use Rattle.comtrade_format.specs.Parts.{HeadParts}
use Rattle.comtrade_format.specs.Shape.{is_writable}
use Rattle.comtrade_format.specs.declared.file.Kind.{Kind}
use Rattle.comtrade_format.specs.declared.file.Kind.TheVariants.{Ascii, Binary}
use Rattle.comtrade_write.specs.OfRecord.{file, head_of, instant_at}
use Rattle.dfr_channels.specs.Parts.{SetupParts}
use Rattle.dfr_channels.specs.Scans.{micros, instant_of}
use Rattle.dfr_channels.specs.Setups.{end_of_time}
use Rattle.dfr_clock.specs.Dating.{Kept, date_of}
use Rattle.dfr_live.specs.Devices.{FilesParts, files_of}
use Rattle.dfr_recorder.specs.Parts.{RecordParts}
use Rattle.dfr_recorder.specs.declared.record.Extent.{Extent}
use Rattle.dfr_station.specs.Dated.{Dating, Shows, ShowsBy, IsShown, Changes, AreWritable, starting, writable, shown_at, shown_under, change_of, redated_by, last_shown, last_text, with_ending, changed_cfg}
use Rattle.dfr_station.specs.declared.shown.Shown.{Shown}
use Rattle.dfr_station.specs.declared.shown.Redated.{Redated}

-- ---- the instants

writable_by : (b : Bool) (a x : ℤ) → (if b then Some a else None) ≡ Some x → (x ≡ a) × (b ≡ true)
writable_by true a x h = (cc, refl)
writable_by false a x h = cc

writable_is : (o : Option ℤ) (x : ℤ) → writable o ≡ Some x → (o ≡ Some x) × (is_writable x ≡ true)
writable_is None x h = cc
writable_is (Some a) x h =
    let is = writable_by (is_writable a) a x h in (ap (λ (z : ℤ). Some z) (sym is.0), ap is_writable is.0 ∙ is.1)

shown_parts : (p q : Option ℤ) (s : Shown) → shown_at p q ≡ Some s → (p ≡ Some s.first) × (q ≡ Some s.trigger)
shown_parts None q s h = cc
shown_parts (Some x) None s h = cc
shown_parts (Some x) (Some y) s h =
    let same : record { first = x; trigger = y } ≡ s = cc in (ap (λ (z : Shown). Some z.first) same, ap (λ (z : Shown). Some z.trigger) same)

time_by : (b : Bool) (t x : ℤ) → (if b then Some t else None) ≡ Some x → x ≡ t
time_by true t x h = cc
time_by false t x h = cc

instant_is : (layout : SetupParts) (k : ℕ) (x : ℤ) → instant_of layout k ≡ Some x → x ≡ instant_at layout k
instant_is layout k x h = time_by (int_le (layout.start +ℤ pos (micros layout.rate k)) (pos end_of_time)) (layout.start +ℤ pos (micros layout.rate k)) x h

-- what is shown are these instants, and they can be written
shown_is : (layout : SetupParts) (extent : Extent) (s : Shown) → shown_under layout extent ≡ Some s
    → (s ≡ record { first = instant_at layout extent.first; trigger = instant_at layout extent.trigger }) × AreWritable s
shown_is layout extent s h =
    let parts = shown_parts (writable (instant_of layout extent.first)) (writable (instant_of layout extent.trigger)) s h in
    let first = writable_is (instant_of layout extent.first) s.first parts.0 in
    let trigger = writable_is (instant_of layout extent.trigger) s.trigger parts.1 in
    let f : s.first ≡ instant_at layout extent.first = instant_is layout extent.first s.first first.0 in
    let t : s.trigger ≡ instant_at layout extent.trigger = instant_is layout extent.trigger s.trigger trigger.0 in
    (rw (sym f, sym t) refl, (first.1, trigger.1))

-- ---- the change

change_parts : (start : ℕ) (was is : Option Shown) (r : Redated) → change_of start was is ≡ Some r
    → (was ≡ Some r.was) × (is ≡ Some r.is) × (start ≡ r.start)
change_parts start None is r h = cc
change_parts start (Some x) None r h = cc
change_parts start (Some x) (Some y) r h =
    let same : record { start = start; was = x; is = y } ≡ r = cc in
    (ap (λ (z : Redated). Some z.was) same, ap (λ (z : Redated). Some z.is) same, ap (λ (z : Redated). z.start) same)

changed_by : (b : Bool) (o : Option Redated) (r : Redated) → (if b then None else o) ≡ Some r → o ≡ Some r
changed_by true o r h = cc
changed_by false o r h = h

-- a record that is dated is changed so
pub dated_changes : (layout : SetupParts) (extent : Extent) (date : ℕ) (r : Redated) → redated_by layout extent date ≡ Some r → Changes layout extent r
dated_changes layout extent date r h =
    let start = date - micros layout.rate extent.trigger in
    let was = shown_under layout extent in
    let is = shown_under (starting start layout) extent in
    let parts = change_parts start was is r (changed_by (nat_lt date (micros layout.rate extent.trigger) || nat_lt end_of_time date) (change_of start was is) r h) in
    (parts.0, ap (λ (s : ℕ). shown_under (starting s layout) extent) (sym parts.2) ∙ parts.1)

pub writable_changes : (layout : SetupParts) (extent : Extent) (r : Redated) → Changes layout extent r → AreWritable r.was × AreWritable r.is
writable_changes layout extent r h = ((shown_is layout extent r.was h.0).1, (shown_is (starting r.start layout) extent r.is h.1).1)

by_clock_changes : (b : Bool) (layout : SetupParts) (extent : Extent) (r : Redated) → ShowsBy b layout extent (Some r) → Changes layout extent r
by_clock_changes false layout extent r k = cc
by_clock_changes true layout extent r (inl k) = cc
by_clock_changes true layout extent r (inr (date, k)) = dated_changes layout extent date r (sym k)

pub shows_changes : (d : Dating) (extent : Extent) (r : Redated) → Shows d extent (Some r) → Changes d.layout extent r
shows_changes d extent r h = by_clock_changes d.by_clock d.layout extent r h

none_too : (b : Bool) (layout : SetupParts) (extent : Extent) → ShowsBy b layout extent None
none_too false layout extent = refl
none_too true layout extent = inl refl

-- each record may be shown as by the set-up
pub shows_none : (d : Dating) (extent : Extent) → Shows d extent None
shows_none d extent = none_too d.by_clock d.layout extent

last_changes : (times : Option Kept) (layout : SetupParts) (extent : Extent) (r : Redated) → last_shown times layout extent ≡ Some r → Changes layout extent r
last_changes None layout extent r h = cc
last_changes (Some t) layout extent r h = dated_changes layout extent (date_of t extent.trigger) r h

pub last_change : (times : Option Kept) (layout : SetupParts) (extent : Extent) (o : Option Redated) → o ≡ last_shown times layout extent
    → IfSome o (λ r. Changes layout extent r)
last_change times layout extent None h = tt
last_change times layout extent (Some r) h = last_changes times layout extent r (sym h)

-- ---- the configuration file

-- all but the last lines
abbrev front_of : HeadParts → List ℕ
front_of h = flat_map line (channel_lines h.station h.device h.analog h.status) ++ flat_map line (rate_lines h.line_freq h.nrates h.rates)

cfg_parts : (h : HeadParts) → cfg h ≡ front_of h ++ flat_map line (last_lines h.first h.trigger h.kind h.timemult)
unfolding cfg head_lines
cfg_parts h =
    let channels = channel_lines h.station h.device h.analog h.status in
    let rates = rate_lines h.line_freq h.nrates h.rates in
    let last = last_lines h.first h.trigger h.kind h.timemult in
    flat_map-append line channels (rates ++ last)
    ∙ ap (λ (x : List ℕ). flat_map line channels ++ x) (flat_map-append line rates last)
    ∙ sym (append_assoc (flat_map line channels) (flat_map line rates) (flat_map line last))

-- the data file doesn't show the start
same_dat : (layout : SetupParts) (kind : Kind) (start : ℕ) (r : RecordParts)
    → dat kind (file layout r kind) ≡ dat kind (file (starting start layout) r kind)
unfolding file
same_dat layout Ascii start r = refl
same_dat layout Binary start r = refl

-- the ending that a text has
ends_so : (front was is : List ℕ) → with_ending (front ++ was) was is ≡ front ++ is
ends_so front was is =
    let n : length (front ++ was) - length was ≡ length front = omega (arith, length-append front was) in
    rw n (ap (λ (l : List ℕ). l ++ is) (take-append_seam front was))

-- the files of a record, after the change of its configuration file
pub files_under : (layout : SetupParts) (kind : Kind) (r : RecordParts) (c : Redated) → Changes layout r.extent c
    → record (files_of layout kind r) { cfg = changed_cfg kind c (files_of layout kind r).cfg } ≡ files_of (starting c.start layout) kind r
unfolding file
files_under layout kind r c changes =
    let h = head_of layout r kind in
    let k = head_of (starting c.start layout) r kind in
    let before = (shown_is layout r.extent c.was changes.0).0 in
    let after = (shown_is (starting c.start layout) r.extent c.is changes.1).0 in
    let split : (files_of layout kind r).cfg ≡ front_of h ++ last_text kind c.was = cfg_parts h ∙ ap (λ (s : Shown). front_of h ++ last_text kind s) (sym before) in
    let made : changed_cfg kind c (files_of layout kind r).cfg ≡ (files_of (starting c.start layout) kind r).cfg =
    ap (changed_cfg kind c) split ∙ ends_so (front_of h) (last_text kind c.was) (last_text kind c.is)
    ∙ ap (λ (s : Shown). front_of h ++ last_text kind s) after ∙ sym (cfg_parts k) in
    rw (made, same_dat layout kind c.start r) refl

-- ---- what a station shows

-- files as they are
pub unchanged : (d : Dating) (files : FilesParts) → IsShown d None files files
unchanged d files = record { same = λ (r : RecordParts) h. h }

-- files of which the instants were changed
pub changed_so : (d : Dating) (files : FilesParts) (c : Redated) → Changes d.layout files.extent c
    → IsShown d (Some c) files (record files { cfg = changed_cfg d.kind c files.cfg })
changed_so d files c changes = record {
  same = λ (r : RecordParts) h.
      ap (λ (f : FilesParts). record f { cfg = changed_cfg d.kind c f.cfg }) h
      ∙ files_under d.layout d.kind r c (subst (λ (f : FilesParts). Changes d.layout f.extent c) h changes);
}
