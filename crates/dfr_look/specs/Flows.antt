-- What the units of a stream come to.
use Rattle.std.specs.Prelude.{ℕ, Bool, true, false, not, ◌&&◌, ◌==◌, if◌then◌else◌, bit_or, Option, Some, None}
use Rattle.dfr_look.specs.declared.unit.Unit.{Unit}
use Rattle.dfr_look.specs.declared.flow.Synchs.{Synchs}
use Rattle.dfr_look.specs.declared.flow.Flow.{Flow}
use Rattle.dfr_look.specs.Tracks as tracks
use Rattle.dfr_look.specs.Tracks.{up}

abbrev pub no_synchs : Synchs
no_synchs = record { none = 0; local = 0; global = 0; clock = 0 }

-- smpSynch: 0 not at all, 1 locally, 2 globally; else to the clock of this number
abbrev pub synchs_after : ℕ → Synchs → Synchs
synchs_after synch s =
    if synch == 0 then record s { none = up s.none 1 }
    else if synch == 1 then record s { local = up s.local 1 }
    else if synch == 2 then record s { global = up s.global 1 }
    else record s { clock = up s.clock 1 }

-- a unit that counts if this is so
abbrev pub counts : Bool → ℕ
counts is_so = if is_so then 1 else 0

abbrev pub same : Option ℕ → Option ℕ → Bool
same None None = true
same None (Some b) = false
same (Some a) None = false
same (Some a) (Some b) = a == b

-- a unit has the form of the first: its values, its rate and its revision
abbrev pub is_like : Unit → Unit → Bool
is_like first u = u.values == first.values && same u.rate first.rate && same u.modulus first.modulus && u.revision == first.revision

abbrev pub first_flow : Unit → Flow
first_flow u = record {
  first = u;
  units = 1;
  track = tracks.beginning u.count;
  quality = u.quality;
  bad = counts (not (u.quality == 0));
  synchs = synchs_after u.synch no_synchs;
  changed = 0;
}

abbrev pub flow_after : Flow → Unit → Flow
flow_after f u = record {
  first = f.first;
  units = up f.units 1;
  track = tracks.after f.track u.count;
  quality = bit_or f.quality u.quality;
  bad = up f.bad (counts (not (u.quality == 0)));
  synchs = synchs_after u.synch f.synchs;
  changed = up f.changed (counts (not (is_like f.first u)));
}
