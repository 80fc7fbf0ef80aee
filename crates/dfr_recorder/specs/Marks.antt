-- What a trigger does to the newest record, by numbers alone.
use Rattle.std.specs.Prelude.{ℕ, ◌+◌, ◌-◌, min, max, Bool, ◌&&◌, if◌then◌else◌, nat_lt, ◌==◌, Option, Some, None, is_none}
use Rattle.dfr_recorder.specs.declared.limits.Limits.{Limits}
use Rattle.dfr_recorder.specs.declared.record.Cause.{Cause}
use Rattle.dfr_recorder.specs.declared.record.Cause.TheVariants as cause
use Rattle.dfr_recorder.specs.declared.record.Extent.{Extent}
use Rattle.dfr_recorder.specs.declared.step.Hit.TheVariants.{Opened, Extended, AtLimit, ShelfFull}
use Rattle.dfr_recorder.specs.declared.step.Scanned.{Scanned}
use Rattle.dfr_recorder.specs.declared.marks.Newest.{Newest}
use Rattle.dfr_recorder.specs.declared.marks.Met.{Met}
use Rattle.dfr_recorder.specs.declared.marks.Marked.{Marked}
use Rattle.dfr_recorder.specs.declared.marks.MarkedIf.{MarkedIf}

-- a trigger at place k moves the open record's last scan on, as far as the greatest length lets it
abbrev pub extended : Limits → ℕ → Newest → Extent → Marked
extended limits k newest e = record {
  hit = if nat_lt (e.first + limits.longest - 1) (k + limits.post) then AtLimit newest.number else Extended newest.number;
  newest = record newest { end = min (k + limits.post) (e.first + limits.longest - 1) + 1 };
  extent = Some (record e { last = min (k + limits.post) (e.first + limits.longest - 1) });
}

-- the first scan of a record that a trigger at place k opens: unshared limits leave the newest record its scans
abbrev pub first_scan : Limits → ℕ → Newest → ℕ
first_scan limits k newest = if limits.unshared then max (k - limits.pre) newest.end else k - limits.pre

-- a trigger at place k opens a record
abbrev pub begun : Limits → ℕ → Cause → Newest → Marked
begun limits k cause newest = record {
  hit = Opened (newest.number + 1);
  newest = record { number = newest.number + 1; end = k + limits.post + 1 };
  extent = Some (record { number = newest.number + 1; first = first_scan limits k newest; trigger = k; last = k + limits.post; cause = cause });
}

-- a trigger at place k, where this record is open or none is
abbrev pub mark_by : Limits → ℕ → Cause → Met → Option Extent → Marked
mark_by limits k cause met (Some e) = extended limits k met.newest e
mark_by limits k cause met None =
    if met.full then record { hit = ShelfFull; newest = met.newest; extent = None }
    else begun limits k cause met.newest

abbrev pub mark : Limits → ℕ → Cause → Met → Marked
mark limits k cause met = mark_by limits k cause met met.extent

-- under unshared limits the newest record, which is closed, has scan k
abbrev pub is_covered : Limits → ℕ → Met → Bool
is_covered limits k met = limits.unshared && is_none met.extent && nat_lt k met.newest.end

-- a scan at place n that fires this rule or none
abbrev pub mark_if : Limits → ℕ → Option ℕ → Met → MarkedIf
mark_if limits n None met = record { hit = None; newest = met.newest; extent = met.extent }
mark_if limits n (Some rule) met = record {
  hit = Some (mark limits n (cause.Rule rule) met).hit;
  newest = (mark limits n (cause.Rule rule) met).newest;
  extent = (mark limits n (cause.Rule rule) met).extent;
}

-- the number of the newest record, where scan n is its last
abbrev pub closed_by : ℕ → Newest → Option Extent → Option ℕ
closed_by n newest None = None
closed_by n newest (Some e) = if e.last == n then Some newest.number else None

-- the answer to an accepted scan at place n
abbrev pub scanned : ℕ → MarkedIf → Scanned
scanned n m = record { number = n; trigger = m.hit; closed = closed_by n m.newest m.extent }
