-- What a crash leaves after each call of `put`.
use Rattle.std.proofs.Common.{◌≡◌, ◌⊎◌, ℕ, List, Option, Some, ⊎_elim}
use Rattle.dfr_folder.specs.declared.name.Ending.{Ending}
use Rattle.dfr_folder.specs.declared.name.Ending.TheVariants as ending
use Rattle.dfr_folder.specs.declared.name.Key.{Key}
use Rattle.dfr_folder.specs.declared.name.Name.{Name}
use Rattle.dfr_folder.specs.Directory.{Content, File, SameBut, Moved, LeavesOnly}
use Rattle.dfr_folder.specs.Pairs.{Files, name, IsFree, IsNoneOr, Beside, Rests}
use Rattle.dfr_folder.proofs.Moments.{weaker, joined}
use Rattle.dfr_folder.proofs.Beside.{free_leaves, implied, touched, renamed}
use Rattle.dfr_folder.proofs.Named.{Any, IsNothing, IsMaybe, IsUnnamed, half, nothing_unnamed, data_written, config_written, unnamed, data_named, is_half, config_named}

module _ {D : Type 0} (files : D → Name → Option File) (may_leave : D → Content → Type 0) (left_since : D → D → Content → Type 0) (key : Key) (cfg dat : List ℕ) (start : D) where
  -- what the whole call promises
  abbrev pub Promise : Content → Type 0
  Promise = Beside may_leave start key (IsNoneOr (Some (cfg, Some dat)))

  abbrev pub At : D → (Files → Type 0) → Type 0
  At new P = (c : Content) → may_leave new c → Beside may_leave start key P c

  abbrev pub Written : D → Ending → Content → Type 0
  Written old end c = (d : Content) × may_leave old d × SameBut (name key end) d c

  abbrev pub Settled : D → Ending → Ending → Content → Type 0
  Settled old from to c = may_leave old c ⊎ ((d : Content) × may_leave old d × Moved (name key from) (name key to) d c)

  during_data : IsFree files may_leave start key → (c : Content) → Written start ending.DataPart c → Beside may_leave start key (IsUnnamed IsNothing Any) c
  during_data free c written = implied files may_leave key start _ _ (data_written IsNothing IsNothing) c
      (touched files may_leave key start start (IsUnnamed IsNothing IsNothing) ending.DataPart
      (λ d left. implied files may_leave key start _ _ nothing_unnamed d (free_leaves files may_leave key start free d left)) c written)

  pub first : (s1 : D) → IsFree files may_leave start key → LeavesOnly may_leave left_since start s1 (Written start ending.DataPart) → LeavesOnly may_leave left_since start s1 Promise
  first s1 free moments = weaker may_leave left_since start s1 _ _ moments
      (λ c written. implied files may_leave key start _ _ (unnamed cfg dat IsNothing Any) c (during_data free c written))

  pub after_first : (s1 : D) → IsFree files may_leave start key → LeavesOnly may_leave left_since start s1 (Written start ending.DataPart)
      → ((c : Content) → may_leave s1 c → IsMaybe dat (c (name key ending.DataPart))) → At s1 (IsUnnamed IsNothing (IsMaybe dat))
  after_first s1 free moments kept c left =
      let b = during_data free c (moments.after c left) in
      record {
        before = b.before;
        left = b.left;
        elsewhere = b.elsewhere;
        there = record { config = b.there.config; data_file = b.there.data_file; gone = b.there.gone; config_part = b.there.config_part; data_part = kept c left };
      }

  during_config : (s1 : D) → At s1 (IsUnnamed IsNothing (IsMaybe dat)) → (c : Content) → Written s1 ending.ConfigPart c → Beside may_leave start key (IsUnnamed Any (IsMaybe dat)) c
  during_config s1 was c written = implied files may_leave key start _ _ (config_written IsNothing (IsMaybe dat)) c
      (touched files may_leave key start s1 (IsUnnamed IsNothing (IsMaybe dat)) ending.ConfigPart was c written)

  pub second : (s1 s2 : D) → LeavesOnly may_leave left_since start s1 Promise → At s1 (IsUnnamed IsNothing (IsMaybe dat))
      → LeavesOnly may_leave left_since s1 s2 (Written s1 ending.ConfigPart) → LeavesOnly may_leave left_since start s2 Promise
  second s1 s2 so_far was moments = joined may_leave left_since start s1 s2 _ _ so_far moments
      (λ c written. implied files may_leave key start _ _ (unnamed cfg dat Any (IsMaybe dat)) c (during_config s1 was c written))

  pub after_second : (s1 s2 : D) → At s1 (IsUnnamed IsNothing (IsMaybe dat)) → LeavesOnly may_leave left_since s1 s2 (Written s1 ending.ConfigPart)
      → ((c : Content) → may_leave s2 c → IsMaybe cfg (c (name key ending.ConfigPart))) → At s2 (IsUnnamed (IsMaybe cfg) (IsMaybe dat))
  after_second s1 s2 was moments kept c left =
      let b = during_config s1 was c (moments.after c left) in
      record {
        before = b.before;
        left = b.left;
        elsewhere = b.elsewhere;
        there = record { config = b.there.config; data_file = b.there.data_file; gone = b.there.gone; config_part = kept c left; data_part = b.there.data_part };
      }

  pub third : (s2 s3 : D) → LeavesOnly may_leave left_since start s2 Promise → At s2 (IsUnnamed (IsMaybe cfg) (IsMaybe dat))
      → LeavesOnly may_leave left_since s2 s3 (Settled s2 ending.DataPart ending.Data) → LeavesOnly may_leave left_since start s3 Promise
  third s2 s3 so_far was moments = joined may_leave left_since start s2 s3 _ _ so_far moments
      (λ c settled. ⊎_elim (λ (left : may_leave s2 c). implied files may_leave key start _ _ (unnamed cfg dat (IsMaybe cfg) (IsMaybe dat)) c (was c left))
      (λ moved. implied files may_leave key start _ _ (data_named cfg dat) c (renamed files may_leave key start s2 _ ending.DataPart ending.Data was c moved)) settled)

  -- with files that every crash leaves
  pub exact : (new : D) (have : Files) → LeavesOnly may_leave left_since start new Promise → Rests files may_leave new key have → At new (λ f. (e : Ending) → f e ≡ have e)
  exact new have so_far rests c left =
      let b = so_far.after c left in
      record { before = b.before; left = b.left; elsewhere = b.elsewhere; there = rests.left c left }

  pub fourth : (s3 s4 : D) → LeavesOnly may_leave left_since start s3 Promise → At s3 (λ f. (e : Ending) → f e ≡ half cfg dat e)
      → LeavesOnly may_leave left_since s3 s4 (Settled s3 ending.ConfigPart ending.Config) → LeavesOnly may_leave left_since start s4 Promise
  fourth s3 s4 so_far was moments = joined may_leave left_since start s3 s4 _ _ so_far moments
      (λ c settled. ⊎_elim (λ (left : may_leave s3 c). implied files may_leave key start _ _ (is_half cfg dat) c (was c left))
      (λ moved. implied files may_leave key start _ _ (config_named cfg dat) c (renamed files may_leave key start s3 _ ending.ConfigPart ending.Config was c moved)) settled)
