-- Each configuration file has its whole pair, while what was being written under a key is removed, and while recovery is at work there.
use Rattle.std.proofs.Common.{◌≡◌, ◌⊎◌, ℕ, true, List, Option, Some, None, refl, sym, ◌∙◌, ap, subst, inl, inr}
use Rattle.std.specs.Prelude.{is_some}
use Rattle.dfr_folder.specs.declared.name.Ending.{Ending}
use Rattle.dfr_folder.specs.declared.name.Ending.TheVariants as ending
use Rattle.dfr_folder.specs.declared.name.Key.{Key}
use Rattle.dfr_folder.specs.declared.name.Name.{Name}
use Rattle.dfr_folder.specs.Directory.{Content, File, Removed, Follows, LeavesOnly}
use Rattle.dfr_folder.specs.Pairs.{Files, name, under, found_of, found, recovered_of, recovered, seen, Beside, IsAtRest, IsMending, IsRecord, AllWhole}
use Rattle.dfr_folder.proofs.Beside.{apart}
use Rattle.dfr_folder.proofs.Mends.{same_found, same_recovered}
use Rattle.dfr_folder.proofs.Everyone.{same_key}
use Rattle.dfr_folder.proofs.Thinned.{IsThinned, thinner, stays, thin_either, is_part}

-- the files of one key changed
pub whole_but : (records : List (Key × List ℕ × List ℕ)) (key : Key) (b c : Content) → ((n : Name) → (n.key ≡ key → ⊥) → c n ≡ b n) → AllWhole records b
    → IsRecord records key (found (under c key)) → IsRecord records key (recovered (under c key)) → AllWhole records c
whole_but records key b c same all shown mended = record {
  shown = λ k. elim (same_key k key) [
    | inl here ↦ subst (λ (x : Key). IsRecord records x (found (under c x))) (sym here) shown
    | inr differ ↦ subst (IsRecord records k) (sym (same_found (under b k) (under c k) (λ e. same (name k e) differ))) (all.shown k)
  ];
  mended = λ k. elim (same_key k key) [
    | inl here ↦ subst (λ (x : Key). IsRecord records x (recovered (under c x))) (sym here) mended
    | inr differ ↦ subst (IsRecord records k) (sym (same_recovered (under b k) (under c k) (λ e. same (name k e) differ))) (all.mended k)
  ];
}

lone_part : (records : List (Key × List ℕ × List ℕ)) (key : Key) (y : List ℕ) (cfg_part dat_part dp : Option (List ℕ)) → IsRecord records key (recovered_of None (Some y) None cfg_part dat_part)
    → IsRecord records key (recovered_of None (Some y) None cfg_part dp)
lone_part records key y None dat_part dp is = tt
lone_part records key y (Some x) dat_part dp is = is

-- without what was being written
record_parts : (records : List (Key × List ℕ × List ℕ)) (key : Key) (cfg dat leaving cfg_part dat_part cp dp : Option (List ℕ)) → IsRecord records key (found_of cfg dat)
    → IsRecord records key (recovered_of cfg dat leaving cfg_part dat_part) → (cp ≡ cfg_part) ⊎ (cp ≡ None) → IsRecord records key (recovered_of cfg dat leaving cp dp)
record_parts records key (Some x) (Some y) leaving cfg_part dat_part cp dp shown mended p = mended
record_parts records key (Some x) None leaving cfg_part dat_part cp dp shown mended p = absurd (cc shown.1)
record_parts records key None dat (Some z) cfg_part dat_part cp dp shown mended p = tt
record_parts records key None None None cfg_part dat_part cp dp shown mended p = tt
record_parts records key None (Some y) None cfg_part dat_part cp dp shown mended (inl same) = subst (λ (o : Option (List ℕ)). IsRecord records key (recovered_of None (Some y) None o dp)) (sym same)
    (lone_part records key y cfg_part dat_part dp mended)
record_parts records key None (Some y) None cfg_part dat_part cp dp shown mended (inr none) = subst (λ (o : Option (List ℕ)). IsRecord records key (recovered_of None (Some y) None o dp)) (sym none) tt

pub parts_record : (records : List (Key × List ℕ × List ℕ)) (key : Key) (h f : Files) → IsRecord records key (found h) → IsRecord records key (recovered h) → IsThinned is_part h f
    → IsRecord records key (found f) × IsRecord records key (recovered f)
parts_record records key h f shown mended thin =
    let config : f ending.Config ≡ h ending.Config = stays is_part h f ending.Config refl thin in
    let data_file : f ending.Data ≡ h ending.Data = stays is_part h f ending.Data refl thin in
    let leaving : f ending.Gone ≡ h ending.Gone = stays is_part h f ending.Gone refl thin in
    let made = record_parts records key (h ending.Config) (h ending.Data) (h ending.Gone) (h ending.ConfigPart) (h ending.DataPart) (f ending.ConfigPart) (f ending.DataPart) shown mended
    (thin_either is_part h f ending.ConfigPart thin) in
    (rw (config, data_file) shown, rw (config, data_file, leaving) made)

one_of : (records : List (Key × List ℕ × List ℕ)) (key : Key) (o p q : Option (List ℕ × Option (List ℕ))) → IsRecord records key p → IsRecord records key q → (o ≡ p) ⊎ (o ≡ q) → IsRecord records key o
one_of records key o p q is_p is_q (inl same) = subst (IsRecord records key) (sym same) is_p
one_of records key o p q is_p is_q (inr same) = subst (IsRecord records key) (sym same) is_q

pub found_some : (cfg dat : Option (List ℕ)) → is_some cfg ≡ true → found_of cfg dat ≡ None → ⊥
found_some None dat is none = absurd (cc is)
found_some (Some x) dat is none = absurd (cc none)

module _ {D : Type 0} (files : D → Name → Option File) (may_leave : D → Content → Type 0) (key : Key) where
  -- what a crash might have left at old, without some files that were being written
  abbrev pub Drops : D → Content → Type 0
  Drops old c = (b : Content) × may_leave old b × ((n : Name) → (n.key ≡ key → ⊥) → c n ≡ b n) × IsThinned is_part (under b key) (under c key)

  pub dropped : (old mid new : D) (end : Ending) → is_part end ≡ true → ((c : Content) → may_leave mid c → Drops old c) → Follows (Removed (name key end)) (may_leave mid) (may_leave new)
      → (c : Content) → may_leave new c → Drops old c
  dropped old mid new end may so_far crash c left = elim (crash c left) [
    | inl was ↦ so_far c was
    | inr change ↦
        let b = so_far change.0 change.1 in
        let r = change.2 in (
          b.0,
          b.1,
          λ n differ. r.elsewhere n (λ same. differ (ap (λ (m : Name). m.key) same)) ∙ b.2 n differ,
          thinner is_part (under b.0 key) (under change.0 key) (under c key) end may b.3 r.gone (λ e differ. r.elsewhere (name key e) (apart key e end differ)),
        )
  ]

  pub drops_first : (old : D) (c : Content) → may_leave old c → Drops old c
  drops_first old c left = (c, left, λ n differ. refl, λ e. inl refl)

  pub drops_whole : (records : List (Key × List ℕ × List ℕ)) (old : D) → ((c : Content) → may_leave old c → AllWhole records c) → (c : Content) → Drops old c → AllWhole records c
  drops_whole records old all c d =
      let was = all d.0 d.1 in
      let is = parts_record records key (under d.0 key) (under c key) (was.shown key) (was.mended key) d.3 in
      whole_but records key d.0 c d.2 was is.0 is.1

  -- while recovery is at work under a key
  pub tidying_whole : (records : List (Key × List ℕ × List ℕ)) (old : D) → IsAtRest files may_leave old key → ((c : Content) → may_leave old c → AllWhole records c)
      → (c : Content) → Beside may_leave old key (IsMending (seen files old key)) c → AllWhole records c
  tidying_whole records old rests all c b =
      let was = all b.before b.left in
      let f = same_found (seen files old key) (under b.before key) (λ e. rests.left b.before b.left e) in
      let r = same_recovered (seen files old key) (under b.before key) (λ e. rests.left b.before b.left e) in
      let shown = subst (IsRecord records key) f (was.shown key) in
      let mended = subst (IsRecord records key) r (was.mended key) in
      whole_but records key b.before c b.elsewhere was (one_of records key (found (under c key)) (found (seen files old key)) (recovered (seen files old key)) shown mended b.there.shown)
      (subst (IsRecord records key) (sym b.there.mended) mended)

-- since old, where each crash at old leaves what has P
pub since_old : {D : Type 0} (may_leave : D → Content → Type 0) (left_since : D → D → Content → Type 0) (old new : D) (P : Content → Type 0) → LeavesOnly may_leave left_since old new P
    → ((c : Content) → left_since old old c → P c) → (c : Content) → left_since old new c → P c
since_old may_leave left_since old new P moments at_old c since = elim (moments.passing old c since) [ inl was ↦ at_old c was | inr is ↦ is ]
