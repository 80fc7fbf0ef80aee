-- What a crash leaves of the files of a pair that is given up.
use Rattle.std.proofs.Common.{◌≡◌, ◌⊎◌, ℕ, Bool, List, Option, Some, None, refl, sym, ◌∙◌, ap, inl, inr}
use Rattle.dfr_folder.specs.declared.name.Ending.{Ending}
use Rattle.dfr_folder.specs.declared.name.Ending.TheVariants as ending
use Rattle.dfr_folder.specs.declared.name.Key.{Key}
use Rattle.dfr_folder.specs.declared.name.Name.{Name}
use Rattle.dfr_folder.specs.Directory.{Content, File, Moved, Follows}
use Rattle.dfr_folder.specs.Pairs.{Files, name, synced, bytes_of, found_of, found, recovered_of, recovered, seen, Beside, Rests, IsAtRest, IsNoneOr, IsTidy, kept}
use Rattle.dfr_folder.proofs.Beside.{Renamed, implied, renamed}
use Rattle.dfr_folder.proofs.Mends.{same_recovered, same_found}
use Rattle.dfr_folder.proofs.Rest.{rest_leaves}
use Rattle.dfr_folder.proofs.Thinned.{IsThinned, stays, is_rest}

abbrev pub after_gone : Files → Files
after_gone h ending.Config = None
after_gone h ending.Data = h ending.Data
after_gone h ending.ConfigPart = h ending.ConfigPart
after_gone h ending.DataPart = h ending.DataPart
after_gone h ending.Gone = h ending.Config

pub renamed_gone : (h f : Files) → Renamed ending.Config ending.Gone (λ g. (e : Ending) → g e ≡ h e) f → (e : Ending) → f e ≡ after_gone h e
renamed_gone h f r ending.Config = r.3
renamed_gone h f r ending.Data = r.4 ending.Data (λ e. absurd (cc)) (λ e. absurd (cc)) ∙ r.1 ending.Data
renamed_gone h f r ending.ConfigPart = r.4 ending.ConfigPart (λ e. absurd (cc)) (λ e. absurd (cc)) ∙ r.1 ending.ConfigPart
renamed_gone h f r ending.DataPart = r.4 ending.DataPart (λ e. absurd (cc)) (λ e. absurd (cc)) ∙ r.1 ending.DataPart
renamed_gone h f r ending.Gone = r.2 ∙ r.1 ending.Config

pub see_gone : (h : Files) (s0 s1 : Ending → Option File) → ((e : Ending) → s0 e ≡ synced (h e)) → ((e : Ending) → (e ≡ ending.Config → ⊥) → (e ≡ ending.Gone → ⊥) → s1 e ≡ s0 e)
    → s1 ending.Gone ≡ s0 ending.Config → s1 ending.Config ≡ None → (e : Ending) → s1 e ≡ synced (after_gone h e)
see_gone h s0 s1 was same there left ending.Config = left
see_gone h s0 s1 was same there left ending.Data = same ending.Data (λ e. absurd (cc)) (λ e. absurd (cc)) ∙ was ending.Data
see_gone h s0 s1 was same there left ending.ConfigPart = same ending.ConfigPart (λ e. absurd (cc)) (λ e. absurd (cc)) ∙ was ending.ConfigPart
see_gone h s0 s1 was same there left ending.DataPart = same ending.DataPart (λ e. absurd (cc)) (λ e. absurd (cc)) ∙ was ending.DataPart
see_gone h s0 s1 was same there left ending.Gone = there ∙ was ending.Config

kept_none : (p : Option (List ℕ × Option (List ℕ))) → (kept p ending.ConfigPart ≡ None) × (kept p ending.DataPart ≡ None) × (kept p ending.Gone ≡ None)
kept_none None = (refl, refl, refl)
kept_none (Some p) = (refl, refl, refl)

tidy_of : (cfg dat : Option (List ℕ)) → recovered_of cfg dat None None None ≡ found_of cfg dat
tidy_of (Some x) (Some y) = refl
tidy_of (Some x) None = refl
tidy_of None (Some y) = refl
tidy_of None None = refl

none_without : (dat leaving : Option (List ℕ)) → recovered_of None dat leaving None None ≡ None
none_without dat (Some z) = refl
none_without (Some y) None = refl
none_without None None = refl

module _ (h : Files) (tidy : IsTidy h) where
  pub no_cfg_part : h ending.ConfigPart ≡ None
  no_cfg_part = tidy ending.ConfigPart ∙ (kept_none (found h)).0

  pub no_dat_part : h ending.DataPart ≡ None
  no_dat_part = tidy ending.DataPart ∙ (kept_none (found h)).1

  pub no_gone : h ending.Gone ≡ None
  no_gone = tidy ending.Gone ∙ (kept_none (found h)).2

  -- the pair as it was
  pub still : (f : Files) → ((e : Ending) → f e ≡ h e) → IsNoneOr (found h) f
  still f same = record {
    shown = inr (same_found h f same);
    mended = inr (same_recovered h f same ∙ rw (no_cfg_part, no_dat_part, no_gone) (tidy_of (h ending.Config) (h ending.Data)));
  }

  -- without its configuration file
  pub nothing_left : (f : Files) → f ending.Config ≡ None → f ending.ConfigPart ≡ None → f ending.DataPart ≡ None → (found f ≡ None) × (recovered f ≡ None)
  nothing_left f config cfg_part dat_part = (rw config refl, rw (config, cfg_part, dat_part) (none_without (f ending.Data) (f ending.Gone)))

  -- the file has its name back
  pub is_back : (f : Files) → Renamed ending.Gone ending.Config (λ g. (e : Ending) → g e ≡ after_gone h e) f → (e : Ending) → f e ≡ h e
  is_back f r ending.Config = r.2 ∙ r.1 ending.Gone
  is_back f r ending.Data = r.4 ending.Data (λ e. absurd (cc)) (λ e. absurd (cc)) ∙ r.1 ending.Data
  is_back f r ending.ConfigPart = r.4 ending.ConfigPart (λ e. absurd (cc)) (λ e. absurd (cc)) ∙ r.1 ending.ConfigPart
  is_back f r ending.DataPart = r.4 ending.DataPart (λ e. absurd (cc)) (λ e. absurd (cc)) ∙ r.1 ending.DataPart
  is_back f r ending.Gone = r.3 ∙ sym no_gone

  pub leaving : (f : Files) → Renamed ending.Config ending.Gone (λ g. (e : Ending) → g e ≡ h e) f → IsNoneOr (found h) f
  leaving f r =
      let is = renamed_gone h f r in
      let none = nothing_left f (is ending.Config) (is ending.ConfigPart ∙ no_cfg_part) (is ending.DataPart ∙ no_dat_part) in
      record { shown = inl none.0; mended = inl none.1 }

  -- while its files are removed
  pub removing : (f : Files) → IsThinned is_rest (after_gone h) f → (found f ≡ None) × (recovered f ≡ None)
  removing f thin = nothing_left f (stays is_rest (after_gone h) f ending.Config refl thin) (stays is_rest (after_gone h) f ending.ConfigPart refl thin ∙ no_cfg_part)
      (stays is_rest (after_gone h) f ending.DataPart refl thin ∙ no_dat_part)

  pub removing_is : (f : Files) → IsThinned is_rest (after_gone h) f → IsNoneOr (found h) f
  removing_is f thin = record { shown = inl (removing f thin).0; mended = inl (removing f thin).1 }

module _ {D : Type 0} (files : D → Name → Option File) (may_leave : D → Content → Type 0) (key : Key) where
  -- while the configuration file loses its name: it has it, or not
  abbrev pub IsLosing : Files → Files → Type 0
  IsLosing h f = ((e : Ending) → f e ≡ h e) ⊎ Renamed ending.Config ending.Gone (λ g. (e : Ending) → g e ≡ h e) f

  pub losing : (old new : D) → IsAtRest files may_leave old key → Follows (Moved (name key ending.Config) (name key ending.Gone)) (may_leave old) (may_leave new)
      → (c : Content) → may_leave new c → Beside may_leave old key (IsLosing (seen files old key)) c
  losing old new r crash c left = elim (crash c left) [
    | inl was ↦ implied files may_leave key old _ (IsLosing (seen files old key)) (λ f is. inl is) c (rest_leaves files may_leave key old r c was)
    | inr moved ↦ implied files may_leave key old _ (IsLosing (seen files old key)) (λ f is. inr is) c (renamed files may_leave key old old _ ending.Config ending.Gone (rest_leaves files may_leave key old r) c moved)
  ]

  pub losing_is : (h : Files) → IsTidy h → (f : Files) → IsLosing h f → IsNoneOr (found h) f
  losing_is h tidy f (inl is) = still h tidy f is
  losing_is h tidy f (inr r) = leaving h tidy f r

  -- and while it gets it back
  pub back_is : (h : Files) → IsTidy h → (f : Files) → Renamed ending.Gone ending.Config (IsLosing h) f → IsNoneOr (found h) f
  back_is h tidy f r = elim r.1 [
    | inl is ↦
        let none = nothing_left h tidy f (r.2 ∙ is ending.Gone ∙ no_gone h tidy) (r.4 ending.ConfigPart (λ e. absurd (cc)) (λ e. absurd (cc)) ∙ is ending.ConfigPart ∙ no_cfg_part h tidy)
        (r.4 ending.DataPart (λ e. absurd (cc)) (λ e. absurd (cc)) ∙ is ending.DataPart ∙ no_dat_part h tidy) in
        record { shown = inl none.0; mended = inl none.1 }
    | inr was ↦ still h tidy f (is_back h tidy f (r.0, renamed_gone h r.0 was, r.2, r.3, r.4))
  ]

  pub giving_back : (old mid new : D) (P : Files → Type 0) → ((c : Content) → may_leave mid c → Beside may_leave old key P c) → ((f : Files) → Renamed ending.Gone ending.Config P f → IsNoneOr (found (seen files old key)) f)
      → ((f : Files) → P f → IsNoneOr (found (seen files old key)) f) → Follows (Moved (name key ending.Gone) (name key ending.Config)) (may_leave mid) (may_leave new)
      → (c : Content) → may_leave new c → Beside may_leave old key (IsNoneOr (found (seen files old key))) c
  giving_back old mid new P so_far back is crash c left = elim (crash c left) [
    | inl was ↦ implied files may_leave key old _ _ is c (so_far c was)
    | inr moved ↦ implied files may_leave key old _ _ back c (renamed files may_leave key old mid P ending.Gone ending.Config so_far c moved)
  ]

  -- with files that every crash leaves
  pub thin_from : (S : Ending → Bool) (old new : D) (P : Files → Type 0) (have : Files) → ((c : Content) → may_leave new c → Beside may_leave old key P c) → Rests files may_leave new key have
      → (c : Content) → may_leave new c → Beside may_leave old key (IsThinned S have) c
  thin_from S old new P have so_far rests c left =
      let b = so_far c left in
      record { before = b.before; left = b.left; elsewhere = b.elsewhere; there = λ e. inl (rests.left c left e) }

  pub exact_from : (old new : D) (P : Files → Type 0) (have : Files) → ((c : Content) → may_leave new c → Beside may_leave old key P c) → Rests files may_leave new key have
      → (c : Content) → may_leave new c → Beside may_leave old key (λ f. (e : Ending) → f e ≡ have e) c
  exact_from old new P have so_far rests c left =
      let b = so_far c left in
      record { before = b.before; left = b.left; elsewhere = b.elsewhere; there = λ e. rests.left c left e }

-- what is seen in the end
pub see_nothing : (h : Files) → IsTidy h → (s1 s2 s3 : Ending → Option File) → ((e : Ending) → s1 e ≡ synced (after_gone h e)) → ((e : Ending) → (e ≡ ending.Data → ⊥) → s2 e ≡ s1 e) → s2 ending.Data ≡ None
    → ((e : Ending) → (e ≡ ending.Gone → ⊥) → s3 e ≡ s2 e) → s3 ending.Gone ≡ None → (e : Ending) → bytes_of (s3 e) ≡ None
see_nothing h tidy s1 s2 s3 is same2 gone2 same3 gone3 ending.Config = ap bytes_of (same3 ending.Config (λ e. absurd (cc)) ∙ same2 ending.Config (λ e. absurd (cc)) ∙ is ending.Config)
see_nothing h tidy s1 s2 s3 is same2 gone2 same3 gone3 ending.Data = ap bytes_of (same3 ending.Data (λ e. absurd (cc)) ∙ gone2)
see_nothing h tidy s1 s2 s3 is same2 gone2 same3 gone3 ending.ConfigPart =
    ap bytes_of (same3 ending.ConfigPart (λ e. absurd (cc)) ∙ same2 ending.ConfigPart (λ e. absurd (cc)) ∙ is ending.ConfigPart ∙ ap synced (no_cfg_part h tidy))
see_nothing h tidy s1 s2 s3 is same2 gone2 same3 gone3 ending.DataPart =
    ap bytes_of (same3 ending.DataPart (λ e. absurd (cc)) ∙ same2 ending.DataPart (λ e. absurd (cc)) ∙ is ending.DataPart ∙ ap synced (no_dat_part h tidy))
see_nothing h tidy s1 s2 s3 is same2 gone2 same3 gone3 ending.Gone = ap bytes_of gone3
