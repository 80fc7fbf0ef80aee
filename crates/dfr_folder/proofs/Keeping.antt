-- Old pairs are given up, the oldest first.
use Rattle.std.proofs.Common.{◌≡◌, ℕ, List, [], ◌∷◌, ◌++◌, Option, None, refl, sym, ◌∙◌, ap, subst, inl, inr, arith, append_assoc}
use Rattle.std.specs.Prelude.{Contains}
use Rattle.std.proofs.lemmas.List.Elements.{Contains-append_left, Contains-append_right, Contains-push_cases}
use Rattle.dfr_folder.specs.declared.name.Ending.{Ending}
use Rattle.dfr_folder.specs.declared.name.Key.{Key}
use Rattle.dfr_folder.specs.declared.name.Name.{Name}
use Rattle.dfr_folder.specs.Directory.{Content, File}
use Rattle.dfr_folder.specs.Pairs.{Files, name, under, synced, bytes_of, found, recovered, seen, Beside, IsAtRest, IsNoneOr, IsTidy, IsDistinct, GivesUp, kept}
use Rattle.dfr_folder.proofs.Mends.{same_found, same_recovered}
use Rattle.dfr_folder.proofs.Leaving.{still}
use Rattle.dfr_folder.proofs.Oldest.{contains_first, contains_later, head_in, not_before, not_after}

-- nothing is found, and nothing made
abbrev pub IsGone : Files → Type 0
IsGone f = (found f ≡ None) × (recovered f ≡ None)

same_gone : (h f : Files) → ((e : Ending) → f e ≡ h e) → IsGone h → IsGone f
same_gone h f same gone = (same_found h f same ∙ gone.0, same_recovered h f same ∙ gone.1)

module _ {D : Type 0} (files : D → Name → Option File) (may_leave : D → Content → Type 0) (old : D) (keys : List Key) where
  -- between two pairs
  pub record Progress (mid : D) (younger : List Key) : Type 0 where
    pub front : List Key
    pub split : keys ≡ front ++ younger
    pub gone : (c : Content) → may_leave mid c → (key : Key) → Contains front key → IsGone (under c key)
    pub same : (c : Content) → may_leave mid c → (before : Content) × may_leave old before × ((n : Name) → (Contains front n.key → ⊥) → c n ≡ before n)
    pub rests : (key : Key) → Contains younger key → IsAtRest files may_leave mid key
    pub unchanged : (n : Name) → (Contains front n.key → ⊥) → files mid n ≡ files old n

  pub begun : ((key : Key) → Contains keys key → IsAtRest files may_leave old key) → Progress old keys
  begun rests = record {
    front = [];
    split = refl;
    gone = λ c left key has. absurd (omega (arith, has.1));
    same = λ c left. (c, left, λ n not. refl);
    rests = rests;
    unchanged = λ n not. refl;
  }

  pub none_given_up : ((key : Key) → Contains keys key → IsAtRest files may_leave old key) → ((key : Key) → Contains keys key → IsTidy (seen files old key))
      → (c : Content) → may_leave old c → GivesUp files may_leave old keys c
  none_given_up rests tidy c left = record {
    front = [];
    younger = keys;
    split = refl;
    gone = λ key has. absurd (omega (arith, has.1));
    next = λ key head. still (seen files old key) (tidy key (head_in keys key head)) (under c key) (λ e. (rests key (head_in keys key head)).left c left e);
    before = c;
    left = left;
    elsewhere = λ n not_front not_head. refl;
  }

  module _ (mid : D) (key : Key) (rest : List Key) (differ : IsDistinct keys) (so_far : Progress mid (key ∷ rest)) where
    not_front : Contains so_far.front key → ⊥
    not_front has = not_before so_far.front rest key (subst IsDistinct so_far.split differ) has

    pub is_in : Contains keys key
    is_in = subst (λ (xs : List Key). Contains xs key) (sym so_far.split) (Contains-append_right so_far.front (key ∷ rest) key (contains_first rest key))

    seen_same : (e : Ending) → seen files mid key e ≡ seen files old key e
    seen_same e = ap bytes_of (so_far.unchanged (name key e) not_front)

    pub is_tidy : IsTidy (seen files old key) → IsTidy (seen files mid key)
    is_tidy tidy e = seen_same e ∙ tidy e ∙ ap (λ (o : Option (List ℕ × Option (List ℕ))). kept o e) (sym (same_found (seen files old key) (seen files mid key) seen_same))

    other : (k : Key) → Contains so_far.front k → k ≡ key → ⊥
    other k has same = not_front (subst (λ (x : Key). Contains so_far.front x) same has)

    gone_still : (c : Content) (b : Beside may_leave mid key (IsNoneOr (found (seen files mid key))) c) (k : Key) → Contains so_far.front k → IsGone (under c k)
    gone_still c b k has = same_gone (under b.before k) (under c k) (λ e. b.elsewhere (name k e) (other k has)) (so_far.gone b.before b.left k has)

    pub giving_up : (c : Content) → Beside may_leave mid key (IsNoneOr (found (seen files mid key))) c → GivesUp files may_leave old keys c
    giving_up c b =
        let same = so_far.same b.before b.left in
        let found_same : found (seen files mid key) ≡ found (seen files old key) = same_found (seen files old key) (seen files mid key) seen_same in
        record {
          front = so_far.front;
          younger = key ∷ rest;
          split = so_far.split;
          gone = gone_still c b;
          next = λ k is. subst (λ (x : Key). IsNoneOr (found (seen files old x)) (under c x)) (sym is) (subst (λ (o : Option (List ℕ × Option (List ℕ))). IsNoneOr o (under c key)) found_same b.there);
          before = same.0;
          left = same.1;
          elsewhere = λ n not_in not_head. b.elsewhere n not_head ∙ same.2 n not_in;
        }

    -- the pair is given up
    pub given_up : (new : D) → ((c : Content) → may_leave new c → Beside may_leave mid key (IsNoneOr (found (seen files mid key))) c)
        → ((c : Content) → may_leave new c → IsGone (under c key)) → ((n : Name) → (n.key ≡ key → ⊥) → files new n ≡ files mid n) → Progress new rest
    given_up new leaves gone same = record {
      front = so_far.front ++ key ∷ [];
      split = so_far.split ∙ sym (append_assoc so_far.front (key ∷ []) rest);
      gone = λ c left k has. elim (Contains-push_cases so_far.front key k has) [
        | inl before ↦ gone_still c (leaves c left) k before
        | inr is ↦ subst (λ (x : Key). IsGone (under c x)) is (gone c left)
      ];
      same = λ c left.
          let b = leaves c left in
          let was = so_far.same b.before b.left in (
            was.0,
            was.1,
            λ n not. b.elsewhere n (λ is. not (subst (λ (x : Key). Contains (so_far.front ++ key ∷ []) x) (sym is) (Contains-append_right so_far.front (key ∷ []) key (contains_first [] key))))
                ∙ was.2 n (λ has. not (Contains-append_left so_far.front (key ∷ []) n.key has)),
          );
      rests = λ k has.
          let not_key : k ≡ key → ⊥ = λ is. not_after so_far.front rest key (subst IsDistinct so_far.split differ) (subst (λ (x : Key). Contains rest x) is has) in
          let r = so_far.rests k (contains_later rest key k has) in
          record {
            seen = λ e. same (name k e) not_key ∙ r.seen e ∙ ap synced (sym (ap bytes_of (same (name k e) not_key)));
            left = λ c left e.
                let b = leaves c left in
                b.elsewhere (name k e) not_key ∙ r.left b.before b.left e ∙ sym (ap bytes_of (same (name k e) not_key));
          };
      unchanged = λ n not. same n (λ is. not (subst (λ (x : Key). Contains (so_far.front ++ key ∷ []) x) (sym is) (Contains-append_right so_far.front (key ∷ []) key (contains_first [] key))))
          ∙ so_far.unchanged n (λ has. not (Contains-append_left so_far.front (key ∷ []) n.key has));
    }
