-- A feed grows unit by unit.
use Rattle.std.proofs.Common.{◌≡◌, ◌∙◌, sym, ap, subst, refl, ℕ, ◌+◌, ◌<◌, ◌≤◌, List, [], ◌∷◌, ◌++◌, length, drop, get_or, Option, Some, None, append_assoc, append-nil, arith}
use Rattle.std.proofs.lemmas.List.{drop_more, drop_all}
use Rattle.dfr_bus.specs.declared.asdu.Asdu.{Asdu}
use Rattle.dfr_bay.specs.declared.arrival.Arrival.{Arrival}
use Rattle.dfr_bay.specs.Lines.{Frame, arrival, source}
use Rattle.dfr_bay.specs.Waiting as waiting
use Rattle.dfr_bay.specs.Waiting.{Grows}
use Rattle.dfr_capture.specs.declared.feed.Event.{Event}
use Rattle.dfr_capture.specs.declared.feed.LostReading.{LostReading}
use Rattle.dfr_capture.specs.Plans.{PlanParts}
use Rattle.dfr_capture.specs.Units.{UnitParts}
use Rattle.dfr_capture.specs.Rows.{row, missing_in, each_scan}
use Rattle.dfr_capture.specs.Recordings.{From, with_unit, with_units, board_of, lines_of, missing_of, arrival_events, unit_events, units_events, unit_at, FeedParts, Waits, Feeds, FeedsAll}
use Rattle.dfr_capture.proofs.Scans.{each_append, source_long}

-- what grows by nothing
stays : {X : Type 0} (xs was : List X) → Grows xs xs was was
stays xs was = record { given = []; appended = sym (append-nil xs); source_grew = sym (append-nil was) }

-- and what grows twice
twice : {X : Type 0} (a b c was then now : List X) → Grows a b was then → Grows b c then now → Grows a c was now
twice {X = X} a b c was then now g h = record {
  given = g.given ++ h.given;
  appended = h.appended ∙ ap (λ (zs : List X). zs ++ h.given) g.appended ∙ append_assoc a g.given h.given;
  source_grew = h.source_grew ∙ ap (λ (zs : List X). zs ++ h.given) g.source_grew ∙ append_assoc was g.given h.given;
}

pub feeds_none : (p : PlanParts) (us : List (Frame UnitParts)) (feed : FeedParts) (bay : waiting.Kept UnitParts) → Waits p us bay → Feeds p us us [] feed feed bay
feeds_none p us feed bay w = record {
  waits = w;
  lines = stays feed.lines (lines_of p us);
  missing = stays feed.missing (missing_of p us);
  events = sym (append-nil feed.events);
}

-- events alone
pub feeds_told : (p : PlanParts) (us : List (Frame UnitParts)) (told : List Event) (before after : FeedParts) (bay : waiting.Kept UnitParts) → Waits p us bay
    → after.lines ≡ before.lines → after.missing ≡ before.missing → after.events ≡ before.events ++ told → Feeds p us us told before after bay
feeds_told p us told before after bay w l m e = record {
  waits = w;
  lines = record { given = []; appended = l ∙ sym (append-nil before.lines); source_grew = sym (append-nil (lines_of p us)) };
  missing = record { given = []; appended = m ∙ sym (append-nil before.missing); source_grew = sym (append-nil (missing_of p us)) };
  events = e;
}

pub feeds_twice : (p : PlanParts) (us vs ws : List (Frame UnitParts)) (a b : List Event) (before then after : FeedParts) (mid bay : waiting.Kept UnitParts)
    → Feeds p us vs a before then mid → Feeds p vs ws b then after bay → Feeds p us ws (a ++ b) before after bay
feeds_twice p us vs ws a b before then after mid bay f g = record {
  waits = g.waits;
  lines = twice before.lines then.lines after.lines (lines_of p us) (lines_of p vs) (lines_of p ws) f.lines g.lines;
  missing = twice before.missing then.missing after.missing (missing_of p us) (missing_of p vs) (missing_of p ws) f.missing g.missing;
  events = g.events ∙ ap (λ (zs : List Event). zs ++ b) f.events ∙ append_assoc before.events a b;
}

-- what each scan gives, of a source that grew
grown : {Y : Type 0} (p : PlanParts) (f : List (Option UnitParts) → List Y) (us vs : List (Frame UnitParts)) (scans : List (Option UnitParts)) (before after : List Y)
    → 1 ≤ length p.streams → Grows [] scans (source (board_of p us)) (source (board_of p vs)) → after ≡ before ++ each_scan f (length p.streams) scans
    → Grows before after (each_scan f (length p.streams) (source (board_of p us))) (each_scan f (length p.streams) (source (board_of p vs)))
grown {Y = Y} p f us vs scans before after some g put =
    let n = length p.streams in
    let is : source (board_of p vs) ≡ source (board_of p us) ++ scans =
    g.source_grew ∙ ap (λ (zs : List (Option UnitParts)). source (board_of p us) ++ zs) (sym g.appended) in
    record {
      given = each_scan f n scans;
      appended = put;
      source_grew =
          ap (λ (zs : List (Option UnitParts)). each_scan f n zs) is
          ∙ each_append f n (board_of p us).done (source (board_of p us)) scans some (source_long p.settings n us);
    }

-- a unit of a stream
pub feeds_unit : (p : PlanParts) (us : List (Frame UnitParts)) (f : Frame UnitParts) (a : Arrival) (scans : List (Option UnitParts)) (old new : waiting.Kept UnitParts)
    (before after : FeedParts) → 1 ≤ length p.streams → Waits p us old → waiting.IsTaken old f [] a scans new
    → after.lines ≡ before.lines ++ each_scan (row p) (length p.streams) scans
    → after.missing ≡ before.missing ++ each_scan (missing_in p) (length p.streams) scans
    → after.events ≡ before.events ++ arrival_events f.stream a
    → Feeds p us (f ∷ us) (arrival_events f.stream (arrival p.settings (board_of p us) f)) before after new
feeds_unit p us f a scans old new before after some w taken l m e =
    let t = taken p.settings (length p.streams) us w in
    record {
      waits = t.2;
      lines = grown p (row p) us (f ∷ us) scans before.lines after.lines some t.1 l;
      missing = grown p (missing_in p) us (f ∷ us) scans before.missing after.missing some t.1 m;
      events = e ∙ ap (λ (b : Arrival). before.events ++ arrival_events f.stream b) (sym t.0);
    }

-- the same, of what the code has of them
pub feeds_unit_of : (p : PlanParts) (us : List (Frame UnitParts)) (f : From) (asdu : Asdu) (n : ℕ) (content : UnitParts) (a : Arrival)
    (none scans : List (Option UnitParts)) (old new : waiting.Kept UnitParts) (before after : FeedParts)
    → 1 ≤ length p.streams → Waits p us old → content ≡ (unit_at f asdu 0).content → none ≡ []
    → waiting.IsTaken old (record { stream = n; count = asdu.smp_cnt; content = content }) none a scans new
    → after.lines ≡ before.lines ++ each_scan (row p) (length p.streams) scans
    → after.missing ≡ before.missing ++ each_scan (missing_in p) (length p.streams) scans
    → after.events ≡ before.events ++ arrival_events n a
    → Feeds p us (unit_at f asdu n ∷ us) (arrival_events n (arrival p.settings (board_of p us) (unit_at f asdu n))) before after new
feeds_unit_of p us f asdu n content a none scans old new before after some w is empty taken l m e =
    let Takes : UnitParts → List (Option UnitParts) → Type 0 =
    λ c xs. waiting.IsTaken old (record { stream = n; count = asdu.smp_cnt; content = c }) xs a scans new in
    let one : Takes (unit_at f asdu 0).content none = subst (λ (c : UnitParts). Takes c none) is taken in
    let two : Takes (unit_at f asdu 0).content [] = subst (λ (xs : List (Option UnitParts)). Takes (unit_at f asdu 0).content xs) empty one in
    feeds_unit p us (unit_at f asdu n) a scans old new before after some w two l m e

-- part of the units of a frame
pub record Partly (p : PlanParts) (f : From) (left all : List Asdu) (us : List (Frame UnitParts)) (before now : FeedParts) (bay : waiting.Kept UnitParts) : Type 0 where
  pub so : List (Frame UnitParts)
  pub done : List Event
  pub fed : Feeds p us so done before now bay
  pub units : with_units p f left so ≡ with_units p f all us
  pub events : done ++ units_events p f left so ≡ units_events p f all us

pub none_yet : (p : PlanParts) (f : From) (all : List Asdu) (us : List (Frame UnitParts)) (feed : FeedParts) (bay : waiting.Kept UnitParts) → Waits p us bay
    → Partly p f all all us feed feed bay
none_yet p f all us feed bay w = record { so = us; done = []; fed = feeds_none p us feed bay w; units = refl; events = refl }

pub one_more : (p : PlanParts) (f : From) (all : List Asdu) (i : ℕ) (d : Asdu) (us : List (Frame UnitParts)) (before now next : FeedParts) (old new : waiting.Kept UnitParts)
    → i < length all → Partly p f (drop i all) all us before now old
    → FeedsAll p old (with_unit p f (get_or all i d)) (unit_events p f (get_or all i d)) now next new
    → Partly p f (drop (i + 1) all) all us before next new
unfolding with_units units_events
one_more p f all i d us before now next old new lt so step =
    let x = get_or all i d in
    let rest = drop (i + 1) all in
    let e = drop_more all i d lt in
    record {
      so = with_unit p f x so.so;
      done = so.done ++ unit_events p f x so.so;
      fed = feeds_twice p us so.so (with_unit p f x so.so) so.done (unit_events p f x so.so) before now next old new so.fed (step so.so so.fed.waits);
      units = ap (λ (zs : List Asdu). with_units p f zs so.so) (sym e) ∙ so.units;
      events =
          append_assoc so.done (unit_events p f x so.so) (units_events p f rest (with_unit p f x so.so))
          ∙ ap (λ (zs : List Asdu). so.done ++ units_events p f zs so.so) (sym e)
          ∙ so.events;
    }

pub all_fed : (p : PlanParts) (f : From) (all : List Asdu) (i : ℕ) (us : List (Frame UnitParts)) (before now : FeedParts) (bay : waiting.Kept UnitParts)
    → length all ≤ i → Partly p f (drop i all) all us before now bay → Feeds p us (with_units p f all us) (units_events p f all us) before now bay
unfolding with_units units_events
all_fed p f all i us before now bay le so =
    let e = drop_all i all le in
    let vs : so.so ≡ with_units p f all us = ap (λ (zs : List Asdu). with_units p f zs so.so) (sym e) ∙ so.units in
    let told : so.done ≡ units_events p f all us =
    sym (append-nil so.done) ∙ ap (λ (zs : List Asdu). so.done ++ units_events p f zs so.so) (sym e) ∙ so.events in
    subst (λ (v : List (Frame UnitParts)). Feeds p us v (units_events p f all us) before now bay) vs
    (subst (λ (t : List Event). Feeds p us so.so t before now bay) told so.fed)
