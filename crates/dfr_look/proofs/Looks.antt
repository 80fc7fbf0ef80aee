-- One unit more.
use Rattle.std.proofs.Common.{◌≡◌, ℕ, ◌+◌, ◌<◌, ◌≤◌, List, length, drop, get_or, refl}
use Rattle.std.proofs.lemmas.List.{drop_more, drop_all}
use Rattle.dfr_bus.specs.declared.frame.Ethernet.{Ethernet}
use Rattle.dfr_bus.specs.declared.asdu.Asdu.{Asdu}
use Rattle.dfr_look.specs.Looks.{Seen, unit_seen, units_seen}

pub units_more : (bytes : List ℕ) (e : Ethernet) (app_id : ℕ) (asdus : List Asdu) (i : ℕ) (d : Asdu) (s : Seen) → i < length asdus
    → units_seen bytes e app_id (drop i asdus) s ≡ units_seen bytes e app_id (drop (i + 1) asdus) (unit_seen bytes e app_id (get_or asdus i d) s)
unfolding units_seen
units_more bytes e app_id asdus i d s lt = rw (drop_more asdus i d lt) refl

pub units_end : (bytes : List ℕ) (e : Ethernet) (app_id : ℕ) (asdus : List Asdu) (i : ℕ) (s : Seen) → length asdus ≤ i → units_seen bytes e app_id (drop i asdus) s ≡ s
unfolding units_seen
units_end bytes e app_id asdus i s le = rw (drop_all i asdus le) refl

pub ruleset unit_steps = (units_more, units_end)
