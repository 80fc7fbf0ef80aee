-- Files as they are read off a list of calls.
use Rattle.std.proofs.Common.{◌≡◌, ℕ, ◌&&◌, Bool, true, false, if◌then◌else◌, List, [], ◌∷◌, Option, Some, None, refl, ◌∙◌, ap, ⊎_elim}
use Rattle.std.specs.Prelude.{All}
use Rattle.std.proofs.lemmas.Bool.{cases_Bool}
use Rattle.std.proofs.lemmas.List.Elements.{All-head, All-tail}
use Rattle.dfr_folder.specs.declared.name.Ending.{Ending}
use Rattle.dfr_folder.specs.declared.name.Ending.TheVariants as ending
use Rattle.dfr_folder.specs.declared.name.Key.{Key}
use Rattle.dfr_folder.specs.declared.name.Name.{Name}
use Rattle.dfr_folder.specs.declared.name.Seen.{Seen}
use Rattle.dfr_folder.specs.Directory.{File}
use Rattle.dfr_folder.specs.Pairs.{bytes_of, name, synced}
use Rattle.dfr_folder.specs.Events.{Event, is_not_false, same_name, state_by, state_of, bytes_under, file_of, files_of}
use Rattle.dfr_folder.proofs.Looking.{each_ending}
use Rattle.dfr_folder.proofs.SeenLemmas.{all_five, same_refl, same_apart}

pub same_state : (o p : Option Bool) (a b : List ℕ) → o ≡ p → a ≡ b → file_of o a ≡ file_of p b
same_state o p a b e f = ap (λ (q : Option Bool). file_of q a) e ∙ ap (λ (bytes : List ℕ). file_of p bytes) f

pub picked : (m n : Name) (a b : List ℕ) → (n ≡ m → ⊥) → (if same_name m n then a else b) ≡ b
picked m n a b differ = rw (same_apart m n differ) refl

pub picked_own : (m : Name) (a b : List ℕ) → (if same_name m m then a else b) ≡ a
picked_own m a b = rw (same_refl m) refl

on_disk_if : (o : Option Bool) (bytes : List ℕ) → is_not_false o ≡ true → file_of o bytes ≡ synced (bytes_of (file_of o bytes))
on_disk_if None bytes not = refl
on_disk_if (Some true) bytes not = refl
on_disk_if (Some false) bytes not = absurd (cc not)

is_synced : Option File → Bool
is_synced None = true
is_synced (Some file) = file.synced

if_on_disk : (o : Option Bool) (bytes : List ℕ) → file_of o bytes ≡ synced (bytes_of (file_of o bytes)) → is_not_false o ≡ true
unfolding is_synced
if_on_disk None bytes disk = refl
if_on_disk (Some true) bytes disk = refl
if_on_disk (Some false) bytes disk = ap is_synced disk

abbrev five_on_disk : List Seen → Key → Bool
five_on_disk names key = is_not_false (state_of names (name key ending.Config)) && is_not_false (state_of names (name key ending.Data)) && is_not_false (state_of names (name key ending.ConfigPart))
    && is_not_false (state_of names (name key ending.DataPart)) && is_not_false (state_of names (name key ending.Gone))

module _ (other : ℕ → Name → List ℕ) (names : List Seen) (events : List Event) (key : Key) where
  -- the bytes of the five files of a key are on the disk
  pub on_disk : five_on_disk names key ≡ true → (end : Ending) → files_of other names events (name key end) ≡ synced (bytes_of (files_of other names events (name key end)))
  on_disk are =
      let five = all_five _ _ _ _ _ are in
      each_ending (λ e. files_of other names events (name key e) ≡ synced (bytes_of (files_of other names events (name key e))))
      (on_disk_if (state_of names (name key ending.Config)) (bytes_under other events (name key ending.Config)) five.0)
      (on_disk_if (state_of names (name key ending.Data)) (bytes_under other events (name key ending.Data)) five.1)
      (on_disk_if (state_of names (name key ending.ConfigPart)) (bytes_under other events (name key ending.ConfigPart)) five.2)
      (on_disk_if (state_of names (name key ending.DataPart)) (bytes_under other events (name key ending.DataPart)) five.3)
      (on_disk_if (state_of names (name key ending.Gone)) (bytes_under other events (name key ending.Gone)) five.4)

  pub back_on_disk : ((end : Ending) → files_of other names events (name key end) ≡ synced (bytes_of (files_of other names events (name key end)))) → five_on_disk names key ≡ true
  back_on_disk disk =
      let cfg = if_on_disk (state_of names (name key ending.Config)) (bytes_under other events (name key ending.Config)) (disk ending.Config) in
      let dat = if_on_disk (state_of names (name key ending.Data)) (bytes_under other events (name key ending.Data)) (disk ending.Data) in
      let cfg_part = if_on_disk (state_of names (name key ending.ConfigPart)) (bytes_under other events (name key ending.ConfigPart)) (disk ending.ConfigPart) in
      let dat_part = if_on_disk (state_of names (name key ending.DataPart)) (bytes_under other events (name key ending.DataPart)) (disk ending.DataPart) in
      let gone = if_on_disk (state_of names (name key ending.Gone)) (bytes_under other events (name key ending.Gone)) (disk ending.Gone) in
      rw (cfg, dat, cfg_part, dat_part, gone) refl

-- where the bytes of each file are on the disk
none_false : (test : Name → Bool) (names : List Seen) → All (λ (seen : Seen). seen.synced ≡ true) names → is_not_false (state_by test names) ≡ true
none_false test [] all = refl
none_false test (x ∷ xs) all = ⊎_elim
    (λ yes. rw yes (All-head (λ (seen : Seen). seen.synced ≡ true) x xs all))
    (λ no. rw no (none_false test xs (All-tail (λ (seen : Seen). seen.synced ≡ true) x xs all)))
    (cases_Bool (test x.name))

pub all_on_disk : (other : ℕ → Name → List ℕ) (names : List Seen) (events : List Event) → All (λ (seen : Seen). seen.synced ≡ true) names → (key : Key) (end : Ending)
    → files_of other names events (name key end) ≡ synced (bytes_of (files_of other names events (name key end)))
all_on_disk other names events all key end = on_disk_if (state_of names (name key end)) (bytes_under other events (name key end)) (none_false (λ n. same_name n (name key end)) names all)
