-- Steps of recovery, from files that are at rest.
use Rattle.std.proofs.Common.{◌≡◌, ◌⊎◌, ℕ, Bool, true, List, Option, Some, None, refl, sym, ◌∙◌, ap, inl, inr, ⊎_elim}
use Rattle.dfr_folder.specs.declared.name.Ending.{Ending}
use Rattle.dfr_folder.specs.declared.name.Ending.TheVariants as ending
use Rattle.dfr_folder.specs.declared.name.Key.{Key}
use Rattle.dfr_folder.specs.declared.name.Name.{Name}
use Rattle.dfr_folder.specs.Directory.{Content, File, Moved, Removed, Stays, Follows, LeavesOnly}
use Rattle.dfr_folder.specs.Pairs.{Files, name, under, synced, Beside, Rests, IsAtRest, IsMending, bytes_of, seen}
use Rattle.dfr_folder.proofs.Moments.{weaker}
use Rattle.dfr_folder.proofs.Beside.{apart, stays_is, Renamed, implied, renamed}
use Rattle.dfr_folder.proofs.Mends.{same_mends, mends_on, after_data, after_config}
use Rattle.dfr_folder.proofs.Thinned.{IsThinned, thinner, is_part, is_gone, is_rest, without}

bytes_synced : (o : Option (List ℕ)) → bytes_of (synced o) ≡ o
bytes_synced None = refl
bytes_synced (Some bytes) = refl

-- the files after a rename
pub renamed_data : (h f : Files) → Renamed ending.DataPart ending.Data (λ g. (e : Ending) → g e ≡ h e) f → (e : Ending) → f e ≡ after_data h e
renamed_data h f r ending.Config = r.4 ending.Config (λ e. absurd (cc)) (λ e. absurd (cc)) ∙ r.1 ending.Config
renamed_data h f r ending.Data = r.2 ∙ r.1 ending.DataPart
renamed_data h f r ending.ConfigPart = r.4 ending.ConfigPart (λ e. absurd (cc)) (λ e. absurd (cc)) ∙ r.1 ending.ConfigPart
renamed_data h f r ending.DataPart = r.3
renamed_data h f r ending.Gone = r.4 ending.Gone (λ e. absurd (cc)) (λ e. absurd (cc)) ∙ r.1 ending.Gone

pub renamed_config : (h f : Files) → Renamed ending.ConfigPart ending.Config (λ g. (e : Ending) → g e ≡ h e) f → (e : Ending) → f e ≡ after_config h e
renamed_config h f r ending.Config = r.2 ∙ r.1 ending.ConfigPart
renamed_config h f r ending.Data = r.4 ending.Data (λ e. absurd (cc)) (λ e. absurd (cc)) ∙ r.1 ending.Data
renamed_config h f r ending.ConfigPart = r.3
renamed_config h f r ending.DataPart = r.4 ending.DataPart (λ e. absurd (cc)) (λ e. absurd (cc)) ∙ r.1 ending.DataPart
renamed_config h f r ending.Gone = r.4 ending.Gone (λ e. absurd (cc)) (λ e. absurd (cc)) ∙ r.1 ending.Gone

-- what is seen after a rename
pub see_data : (h : Files) (s0 s1 : Ending → Option File) → ((e : Ending) → s0 e ≡ synced (h e)) → ((e : Ending) → (e ≡ ending.DataPart → ⊥) → (e ≡ ending.Data → ⊥) → s1 e ≡ s0 e)
    → s1 ending.Data ≡ s0 ending.DataPart → s1 ending.DataPart ≡ None → (e : Ending) → s1 e ≡ synced (after_data h e)
see_data h s0 s1 was same there left ending.Config = same ending.Config (λ e. absurd (cc)) (λ e. absurd (cc)) ∙ was ending.Config
see_data h s0 s1 was same there left ending.Data = there ∙ was ending.DataPart
see_data h s0 s1 was same there left ending.ConfigPart = same ending.ConfigPart (λ e. absurd (cc)) (λ e. absurd (cc)) ∙ was ending.ConfigPart
see_data h s0 s1 was same there left ending.DataPart = left
see_data h s0 s1 was same there left ending.Gone = same ending.Gone (λ e. absurd (cc)) (λ e. absurd (cc)) ∙ was ending.Gone

pub see_config : (h : Files) (s0 s1 : Ending → Option File) → ((e : Ending) → s0 e ≡ synced (h e)) → ((e : Ending) → (e ≡ ending.ConfigPart → ⊥) → (e ≡ ending.Config → ⊥) → s1 e ≡ s0 e)
    → s1 ending.Config ≡ s0 ending.ConfigPart → s1 ending.ConfigPart ≡ None → (e : Ending) → s1 e ≡ synced (after_config h e)
see_config h s0 s1 was same there left ending.Config = there ∙ was ending.ConfigPart
see_config h s0 s1 was same there left ending.Data = same ending.Data (λ e. absurd (cc)) (λ e. absurd (cc)) ∙ was ending.Data
see_config h s0 s1 was same there left ending.ConfigPart = left
see_config h s0 s1 was same there left ending.DataPart = same ending.DataPart (λ e. absurd (cc)) (λ e. absurd (cc)) ∙ was ending.DataPart
see_config h s0 s1 was same there left ending.Gone = same ending.Gone (λ e. absurd (cc)) (λ e. absurd (cc)) ∙ was ending.Gone

-- what is seen after removals
pub see_no_parts : (h : Files) (s0 s1 s2 : Ending → Option File) → ((e : Ending) → s0 e ≡ synced (h e)) → ((e : Ending) → (e ≡ ending.ConfigPart → ⊥) → s1 e ≡ s0 e) → s1 ending.ConfigPart ≡ None
    → ((e : Ending) → (e ≡ ending.DataPart → ⊥) → s2 e ≡ s1 e) → s2 ending.DataPart ≡ None → (e : Ending) → s2 e ≡ synced (without is_part h e)
see_no_parts h s0 s1 s2 was same1 gone1 same2 gone2 ending.Config = same2 ending.Config (λ e. absurd (cc)) ∙ same1 ending.Config (λ e. absurd (cc)) ∙ was ending.Config
see_no_parts h s0 s1 s2 was same1 gone1 same2 gone2 ending.Data = same2 ending.Data (λ e. absurd (cc)) ∙ same1 ending.Data (λ e. absurd (cc)) ∙ was ending.Data
see_no_parts h s0 s1 s2 was same1 gone1 same2 gone2 ending.ConfigPart = same2 ending.ConfigPart (λ e. absurd (cc)) ∙ gone1
see_no_parts h s0 s1 s2 was same1 gone1 same2 gone2 ending.DataPart = gone2
see_no_parts h s0 s1 s2 was same1 gone1 same2 gone2 ending.Gone = same2 ending.Gone (λ e. absurd (cc)) ∙ same1 ending.Gone (λ e. absurd (cc)) ∙ was ending.Gone

pub see_no_gone : (h : Files) (s0 s1 : Ending → Option File) → ((e : Ending) → s0 e ≡ synced (h e)) → ((e : Ending) → (e ≡ ending.Gone → ⊥) → s1 e ≡ s0 e) → s1 ending.Gone ≡ None
    → (e : Ending) → s1 e ≡ synced (without is_gone h e)
see_no_gone h s0 s1 was same gone ending.Config = same ending.Config (λ e. absurd (cc)) ∙ was ending.Config
see_no_gone h s0 s1 was same gone ending.Data = same ending.Data (λ e. absurd (cc)) ∙ was ending.Data
see_no_gone h s0 s1 was same gone ending.ConfigPart = same ending.ConfigPart (λ e. absurd (cc)) ∙ was ending.ConfigPart
see_no_gone h s0 s1 was same gone ending.DataPart = same ending.DataPart (λ e. absurd (cc)) ∙ was ending.DataPart
see_no_gone h s0 s1 was same gone ending.Gone = gone

pub see_no_rest : (h : Files) (s0 s1 s2 : Ending → Option File) → ((e : Ending) → s0 e ≡ synced (h e)) → ((e : Ending) → (e ≡ ending.Data → ⊥) → s1 e ≡ s0 e) → s1 ending.Data ≡ None
    → ((e : Ending) → (e ≡ ending.Gone → ⊥) → s2 e ≡ s1 e) → s2 ending.Gone ≡ None → (e : Ending) → s2 e ≡ synced (without is_rest h e)
see_no_rest h s0 s1 s2 was same1 gone1 same2 gone2 ending.Config = same2 ending.Config (λ e. absurd (cc)) ∙ same1 ending.Config (λ e. absurd (cc)) ∙ was ending.Config
see_no_rest h s0 s1 s2 was same1 gone1 same2 gone2 ending.Data = same2 ending.Data (λ e. absurd (cc)) ∙ gone1
see_no_rest h s0 s1 s2 was same1 gone1 same2 gone2 ending.ConfigPart = same2 ending.ConfigPart (λ e. absurd (cc)) ∙ same1 ending.ConfigPart (λ e. absurd (cc)) ∙ was ending.ConfigPart
see_no_rest h s0 s1 s2 was same1 gone1 same2 gone2 ending.DataPart = same2 ending.DataPart (λ e. absurd (cc)) ∙ same1 ending.DataPart (λ e. absurd (cc)) ∙ was ending.DataPart
see_no_rest h s0 s1 s2 was same1 gone1 same2 gone2 ending.Gone = gone2

module _ {D : Type 0} (files : D → Name → Option File) (may_leave : D → Content → Type 0) (key : Key) where
  pub seen_is : (d : D) (have : Files) → Rests files may_leave d key have → (e : Ending) → seen files d key e ≡ have e
  seen_is d have r e = ap bytes_of (r.seen e) ∙ bytes_synced (have e)

  pub at_rest : (d : D) (have : Files) → Rests files may_leave d key have → IsAtRest files may_leave d key
  at_rest d have r = record {
    seen = λ e. r.seen e ∙ ap synced (sym (seen_is d have r e));
    left = λ c left e. r.left c left e ∙ sym (seen_is d have r e);
  }

  -- after a sync of the names
  pub settled : (mid new : D) (have : Files) → ((e : Ending) → files mid (name key e) ≡ synced (have e)) → ((n : Name) → files new n ≡ files mid n)
      → ((c : Content) → may_leave new c → (n : Name) → Stays (files mid n) (c n)) → Rests files may_leave new key have
  settled mid new have is same stays = record {
    seen = λ e. same (name key e) ∙ is e;
    left = λ c left e. stays_is (have e) (c (name key e)) (rw (sym (is e)) (stays c left (name key e)));
  }

  -- a call that changes nothing
  pub rests_on : (old new : D) → IsAtRest files may_leave old key → ((n : Name) → files new n ≡ files old n) → ((c : Content) → may_leave new c → may_leave old c)
      → Rests files may_leave new key (seen files old key)
  rests_on old new r same crash = record {
    seen = λ e. same (name key e) ∙ r.seen e;
    left = λ c left e. r.left c (crash c left) e;
  }

  pub rest_leaves : (old : D) → IsAtRest files may_leave old key → (c : Content) → may_leave old c → Beside may_leave old key (λ f. (e : Ending) → f e ≡ seen files old key e) c
  rest_leaves old r c left = record { before = c; left = left; elsewhere = λ n differ. refl; there = λ e. r.left c left e }

  pub rest_mends : (old : D) → IsAtRest files may_leave old key → (c : Content) → may_leave old c → Beside may_leave old key (IsMending (seen files old key)) c
  rest_mends old r c left = implied files may_leave key old _ _ (λ f same. same_mends (seen files old key) f same) c (rest_leaves old r c left)

  -- from a state that recovery makes the same of
  pub onward : (old mid : D) → ((c : Content) → may_leave mid c → Beside may_leave old key (IsMending (seen files old key)) c) → IsMending (seen files old key) (seen files mid key)
      → (c : Content) → Beside may_leave mid key (IsMending (seen files mid key)) c → Beside may_leave old key (IsMending (seen files old key)) c
  onward old mid leaves mends c b =
      let a = leaves b.before b.left in
      record {
        before = a.before;
        left = a.left;
        elsewhere = λ n differ. b.elsewhere n differ ∙ a.elsewhere n differ;
        there = mends_on (seen files old key) (seen files mid key) (under c key) mends b.there;
      }

  -- a file gets its name
  pub naming : (left_since : D → D → Content → Type 0) (old new : D) (from to : Ending) → IsAtRest files may_leave old key
      → ((f : Files) → Renamed from to (λ g. (e : Ending) → g e ≡ seen files old key e) f → IsMending (seen files old key) f)
      → LeavesOnly may_leave left_since old new (λ c. may_leave old c ⊎ ((d : Content) × may_leave old d × Moved (name key from) (name key to) d c))
      → LeavesOnly may_leave left_since old new (Beside may_leave old key (IsMending (seen files old key)))
  naming left_since old new from to r mends moments = weaker may_leave left_since old new _ _ moments
      (λ c settles. ⊎_elim (λ (left : may_leave old c). rest_mends old r c left)
      (λ moved. implied files may_leave key old _ _ mends c (renamed files may_leave key old old _ from to (rest_leaves old r) c moved)) settles)

  -- a file is removed
  pub removed : (S : Ending → Bool) (h : Files) (old mid new : D) (end : Ending) → S end ≡ true → ((c : Content) → may_leave mid c → Beside may_leave old key (IsThinned S h) c)
      → Follows (Removed (name key end)) (may_leave mid) (may_leave new) → (c : Content) → may_leave new c → Beside may_leave old key (IsThinned S h) c
  removed S h old mid new end may leaves crash c left = elim (crash c left) [
    | inl before ↦ leaves c before
    | inr change ↦
        let b = leaves change.0 change.1 in
        let r = change.2 in
        record {
          before = b.before;
          left = b.left;
          elsewhere = λ n differ. r.elsewhere n (λ same. differ (ap (λ (m : Name). m.key) same)) ∙ b.elsewhere n differ;
          there = thinner S h (under change.0 key) (under c key) end may b.there r.gone (λ e differ. r.elsewhere (name key e) (apart key e end differ));
        }
  ]

  pub thin_leaves : (S : Ending → Bool) (old : D) → IsAtRest files may_leave old key → (c : Content) → may_leave old c → Beside may_leave old key (IsThinned S (seen files old key)) c
  thin_leaves S old r c left = implied files may_leave key old _ _ (λ f same e. inl (same e)) c (rest_leaves old r c left)
