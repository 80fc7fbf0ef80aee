-- What a look at the files of a key tells.
use Rattle.std.proofs.Common.{◌≡◌, ℕ, false, List, Option, Some, None, is_some, refl, sym, ◌∙◌}
use Rattle.dfr_folder.specs.declared.name.Ending.{Ending}
use Rattle.dfr_folder.specs.declared.name.Ending.TheVariants as ending
use Rattle.dfr_folder.specs.declared.name.Key.{Key}
use Rattle.dfr_folder.specs.declared.name.Name.{Name}
use Rattle.dfr_folder.specs.declared.name.Names.{Names}
use Rattle.dfr_folder.specs.Directory.{Content, File, Stays}
use Rattle.dfr_folder.specs.Pairs.{name, bytes_of, seen, AreNames, IsFree}

pub each_ending : (P : Ending → Type 0) → P ending.Config → P ending.Data → P ending.ConfigPart → P ending.DataPart → P ending.Gone → (e : Ending) → P e
each_ending P a b c d g ending.Config = a
each_ending P a b c d g ending.Data = b
each_ending P a b c d g ending.ConfigPart = c
each_ending P a b c d g ending.DataPart = d
each_ending P a b c d g ending.Gone = g

pub none_of_false : (o : Option File) → is_some (bytes_of o) ≡ false → o ≡ None
none_of_false None e = refl
none_of_false (Some file) e = absurd (cc)

pub stays_none : (o : Option File) (left : Option (List ℕ)) → o ≡ None → Stays o left → left ≡ None
stays_none None left e stays = stays
stays_none (Some file) left e stays = absurd (cc)

module _ {D : Type 0} (files : D → Name → Option File) (may_leave : D → Content → Type 0) (key : Key) where
  none_seen : (s0 : D) (names : Names) → AreNames (seen files s0 key) names → names.cfg ≡ false → names.dat ≡ false → names.cfg_part ≡ false → names.dat_part ≡ false → names.gone ≡ false
      → (e : Ending) → files s0 (name key e) ≡ None
  none_seen s0 names are cfg dat cfg_part dat_part gone = each_ending (λ e. files s0 (name key e) ≡ None)
      (none_of_false (files s0 (name key ending.Config)) (sym are.cfg ∙ cfg))
      (none_of_false (files s0 (name key ending.Data)) (sym are.dat ∙ dat))
      (none_of_false (files s0 (name key ending.ConfigPart)) (sym are.cfg_part ∙ cfg_part))
      (none_of_false (files s0 (name key ending.DataPart)) (sym are.dat_part ∙ dat_part))
      (none_of_false (files s0 (name key ending.Gone)) (sym are.gone ∙ gone))

  -- no file was seen, and then the names were synced
  pub free_from : (s0 s1 s2 : D) (names : Names) → AreNames (seen files s0 key) names → names.cfg ≡ false → names.dat ≡ false → names.cfg_part ≡ false → names.dat_part ≡ false → names.gone ≡ false
      → ((n : Name) → files s1 n ≡ files s0 n) → ((n : Name) → files s2 n ≡ files s1 n) → ((c : Content) → may_leave s2 c → (n : Name) → Stays (files s1 n) (c n)) → IsFree files may_leave s2 key
  free_from s0 s1 s2 names are cfg dat cfg_part dat_part gone same₁ same₂ stays = λ e.
      let none : files s1 (name key e) ≡ None = same₁ (name key e) ∙ none_seen s0 names are cfg dat cfg_part dat_part gone e in
      record {
        unused = same₂ (name key e) ∙ none;
        unleft = λ c left. stays_none (files s1 (name key e)) (c (name key e)) none (stays c left (name key e));
      }
