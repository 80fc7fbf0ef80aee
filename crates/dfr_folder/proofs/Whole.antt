-- Each configuration file has its whole pair, after each call.
use Rattle.std.proofs.Common.{◌≡◌, ◌⊎◌, ℕ, List, [], ◌∷◌, Option, Some, None, refl, sym, subst, inl, inr, arith}
use Rattle.std.proofs.lemmas.List.Elements.{Contains-append_right}
use Rattle.dfr_folder.specs.declared.name.Key.{Key}
use Rattle.dfr_folder.specs.declared.name.Name.{Name}
use Rattle.dfr_folder.specs.Directory.{Content, File}
use Rattle.dfr_folder.specs.Pairs.{name, under, found, recovered, seen, Beside, IsAtRest, IsNoneOr, MendsOne, IsRecord, AllWhole}
use Rattle.dfr_folder.proofs.Mends.{same_found, same_recovered}
use Rattle.dfr_folder.proofs.Everyone.{same_key}

-- among more records
more : (r : Key × List ℕ × List ℕ) (records : List (Key × List ℕ × List ℕ)) (key : Key) (o : Option (List ℕ × Option (List ℕ))) → IsRecord records key o → IsRecord (r ∷ records) key o
more r records key None is = tt
more r records key (Some p) is = (is.0, is.1, Contains-append_right (r ∷ []) records (key, p.0, is.0) is.2)

either : (records : List (Key × List ℕ × List ℕ)) (key : Key) (o p : Option (List ℕ × Option (List ℕ))) → IsRecord records key p → (o ≡ None) ⊎ (o ≡ p) → IsRecord records key o
either records key o p is (inl none) = subst (IsRecord records key) (sym none) tt
either records key o p is (inr same) = subst (IsRecord records key) (sym same) is

one_of : (records : List (Key × List ℕ × List ℕ)) (key : Key) (o p q : Option (List ℕ × Option (List ℕ))) → IsRecord records key p → IsRecord records key q → (o ≡ p) ⊎ (o ≡ q) → IsRecord records key o
one_of records key o p q is_p is_q (inl same) = subst (IsRecord records key) (sym same) is_p
one_of records key o p q is_p is_q (inr same) = subst (IsRecord records key) (sym same) is_q

module _ {D : Type 0} (files : D → Name → Option File) (may_leave : D → Content → Type 0) (old : D) where
  -- one key has none or a record's pair, the others what they had
  whole_beside : (records others : List (Key × List ℕ × List ℕ)) (key : Key) (p : Option (List ℕ × Option (List ℕ))) → IsRecord records key p
      → ((k : Key) (o : Option (List ℕ × Option (List ℕ))) → IsRecord others k o → IsRecord records k o)
      → ((c : Content) → may_leave old c → AllWhole others c) → (c : Content) → Beside may_leave old key (IsNoneOr p) c → AllWhole records c
  whole_beside records others key p is grows all c b = record {
    shown = λ k. elim (same_key k key) [
      | inl here ↦ subst (λ (x : Key). IsRecord records x (found (under c x))) (sym here) (either records key (found (under c key)) p is b.there.shown)
      | inr differ ↦ subst (IsRecord records k) (sym (same_found (under b.before k) (under c k) (λ e. b.elsewhere (name k e) differ)))
          (grows k (found (under b.before k)) ((all b.before b.left).shown k))
    ];
    mended = λ k. elim (same_key k key) [
      | inl here ↦ subst (λ (x : Key). IsRecord records x (recovered (under c x))) (sym here) (either records key (recovered (under c key)) p is b.there.mended)
      | inr differ ↦ subst (IsRecord records k) (sym (same_recovered (under b.before k) (under c k) (λ e. b.elsewhere (name k e) differ)))
          (grows k (recovered (under b.before k)) ((all b.before b.left).mended k))
    ];
  }

  pub whole_put : (records : List (Key × List ℕ × List ℕ)) (key : Key) (cfg dat : List ℕ) → ((c : Content) → may_leave old c → AllWhole records c)
      → (c : Content) → Beside may_leave old key (IsNoneOr (Some (cfg, Some dat))) c → AllWhole ((key, cfg, dat) ∷ records) c
  whole_put records key cfg dat all c b = whole_beside ((key, cfg, dat) ∷ records) records key (Some (cfg, Some dat)) (dat, refl, (0, omega arith, refl))
      (λ k o is. more (key, cfg, dat) records k o is) all c b

  pub whole_given_up : (records : List (Key × List ℕ × List ℕ)) (key : Key) → IsAtRest files may_leave old key → ((c : Content) → may_leave old c → AllWhole records c)
      → (c : Content) → Beside may_leave old key (IsNoneOr (found (seen files old key))) c → AllWhole records c
  whole_given_up records key rests all c b =
      let same = same_found (seen files old key) (under b.before key) (λ e. rests.left b.before b.left e) in
      whole_beside records records key (found (seen files old key)) (subst (IsRecord records key) same ((all b.before b.left).shown key)) (λ k o is. is) all c b

  -- recovery made the same of one content that a crash might have left
  pub whole_mended : (records : List (Key × List ℕ × List ℕ)) → ((c : Content) → may_leave old c → AllWhole records c) → (c : Content) → MendsOne may_leave old c → AllWhole records c
  whole_mended records all c one =
      let was = all one.0 one.1 in
      record {
        shown = λ k. one_of records k (found (under c k)) (found (under one.0 k)) (recovered (under one.0 k)) (was.shown k) (was.mended k) (one.2 k).shown;
        mended = λ k. subst (IsRecord records k) (sym (one.2 k).mended) (was.mended k);
      }
