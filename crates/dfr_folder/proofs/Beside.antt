-- The files of one key after a change, and all others.
use Rattle.std.proofs.Common.{◌≡◌, ℕ, List, Option, Some, None, refl, sym, ◌∙◌, ap}
use Rattle.dfr_folder.specs.declared.name.Ending.{Ending}
use Rattle.dfr_folder.specs.declared.name.Key.{Key}
use Rattle.dfr_folder.specs.declared.name.Name.{Name}
use Rattle.dfr_folder.specs.Directory.{Content, File, SameBut, Moved, Stays}
use Rattle.dfr_folder.specs.Pairs.{Files, name, under, synced, IsFree, Beside, Rests}

-- names differ by their endings
pub apart : (key : Key) (e f : Ending) → (e ≡ f → ⊥) → name key e ≡ name key f → ⊥
apart key e f differ same = differ (ap (λ (n : Name). n.ending) same)

-- files that have P, but for one that may be any
abbrev pub But : Ending → (Files → Type 0) → Files → Type 0
But end P f = (g : Files) × P g × ((e : Ending) → (e ≡ end → ⊥) → f e ≡ g e)

-- files that have P, but for one that was renamed
abbrev pub Renamed : Ending → Ending → (Files → Type 0) → Files → Type 0
Renamed from to P f = (g : Files) × P g × (f to ≡ g from) × (f from ≡ None) × ((e : Ending) → (e ≡ from → ⊥) → (e ≡ to → ⊥) → f e ≡ g e)

pub stays_is : (o v : Option (List ℕ)) → Stays (synced o) v → v ≡ o
stays_is None v stays = stays
stays_is (Some bytes) v stays = stays refl

module _ {D : Type 0} (files : D → Name → Option File) (may_leave : D → Content → Type 0) (key : Key) where
  -- each crash at this moment leaves files of the key that have P, and all others as at old
  abbrev pub Leaves : D → D → (Files → Type 0) → Type 0
  Leaves old new P = (c : Content) → may_leave new c → Beside may_leave old key P c

  pub free_leaves : (old : D) → IsFree files may_leave old key → Leaves old old (λ f. (e : Ending) → f e ≡ None)
  free_leaves old free c left = record { before = c; left = left; elsewhere = λ n differ. refl; there = λ e. (free e).unleft c left }

  pub implied : (old : D) (P Q : Files → Type 0) → ((f : Files) → P f → Q f) → (c : Content) → Beside may_leave old key P c → Beside may_leave old key Q c
  implied old P Q implies c b = record { before = b.before; left = b.left; elsewhere = b.elsewhere; there = implies (under c key) b.there }

  pub touched : (old mid : D) (P : Files → Type 0) (end : Ending) → Leaves old mid P → (c : Content) → ((d : Content) × may_leave mid d × SameBut (name key end) d c) → Beside may_leave old key (But end P) c
  touched old mid P end leaves c from =
      let b = leaves from.0 from.1 in
      record {
        before = b.before;
        left = b.left;
        elsewhere = λ n differ. from.2 n (λ same. differ (ap (λ (m : Name). m.key) same)) ∙ b.elsewhere n differ;
        there = (under from.0 key, b.there, λ e differ. from.2 (name key e) (apart key e end differ));
      }

  pub renamed : (old mid : D) (P : Files → Type 0) (from to : Ending) → Leaves old mid P → (c : Content) → ((d : Content) × may_leave mid d × Moved (name key from) (name key to) d c) → Beside may_leave old key (Renamed from to P) c
  renamed old mid P from to leaves c was =
      let b = leaves was.0 was.1 in
      let moved = was.2 in
      record {
        before = b.before;
        left = b.left;
        elsewhere = λ n differ. moved.elsewhere n (λ same. differ (ap (λ (m : Name). m.key) same)) (λ same. differ (ap (λ (m : Name). m.key) same)) ∙ b.elsewhere n differ;
        there = (under was.0 key, b.there, moved.there, moved.left, λ e not_from not_to. moved.elsewhere (name key e) (apart key e from not_from) (apart key e to not_to));
      }

  -- once the names are synced, the files are those that are seen
  pub stayed : (new : D) (have : Files) → ((e : Ending) → files new (name key e) ≡ synced (have e)) → ((c : Content) → may_leave new c → (n : Name) → Stays (files new n) (c n))
      → Rests files may_leave new key have
  stayed new have seen stays = record {
    seen = seen;
    left = λ c left e. stays_is (have e) (c (name key e)) (rw (sym (seen e)) (stays c left (name key e)));
  }
