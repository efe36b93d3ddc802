-- What keeps a state valid.
use Rattle.std.proofs.Common.{◌≡◌, ◌≢◌, ℕ, suc, ◌+◌, ◌≤◌, Bool, true, false, List, [], ◌∷◌, length}
use Rattle.std.proofs.Common.{Option, Some, None, refl, sym, ap, subst, ◌∙◌, ◌⊎◌, inl, inr, arith}
use Rattle.std.specs.Prelude.{filter, is_some, IfSome, IsTrue}
use Rattle.std.specs.List.{AllByRecursion}
use Rattle.std.specs.Str.{bytes_eq}
use Rattle.std.proofs.lemmas.List.Elements.{All-from_recursion, recursion_from_All}
use Rattle.kdb_base.specs.Limits.{most_rows}
use Rattle.kdb_base.specs.declared.moments.Point.{Point}
use Rattle.master_keys.specs.First.{master_name}
use Rattle.policy_rules.specs.Rules.{Rules}
use Rattle.princ_record.specs.Policies.{IsPolicy}
use Rattle.princ_rows.specs.Effects.{put_by, drop_by}
use Rattle.princ_rows.specs.EntryLaws.{same_bytes, bytes_same}
use Rattle.princ_rows.proofs.Orders.{put_order, put_each, drop_order, drop_each, drop_short}
use Rattle.kdb_plain.specs.Changes.{IsOrdinary, MayBePut, name_of, policy_name}
use Rattle.kdb_plain.specs.Changes.{put_princ, drop_princ, put_policy, drop_policy}
use Rattle.kdb_plain.specs.States.{HasHistory, HasItsPolicy, IsListed, NeverRise, has_policy}
use Rattle.kdb_plain.specs.States.{history_name, is_name, policy_named, princ_named, users_of, uses}
use Rattle.kdb_plain.specs.declared.princs.PlainPrinc.{PlainPrinc}
use Rattle.kdb_plain.proofs.Named.{put_own, put_other, drop_other}
use Rattle.kdb_base.specs.Moment.{Moment}
use Rattle.kdb_base.specs.declared.versions.Activation.{Activation}
use Rattle.key_activation.specs.Activations.{active}
use Rattle.kdb_plain.specs.States.{IsValid}
use Rattle.kdb_plain.specs.declared.states.State.{State}

-- what is active is followed by what is active
abbrev pub StaysActive : Type 0
StaysActive = (list : List Activation) (early late : ℕ) → early ≤ late → active list early ≢ None
    → active list late ≢ None

there : {A : Type 0} (o : Option A) → is_some o ≡ true → o ≡ None → ⊥
there None e none = absurd cc
there (Some a) e none = absurd cc

some_from : {A : Type 0} (o : Option A) → (o ≡ None → ⊥) → is_some o ≡ true
some_from None some = absurd (some refl)
some_from (Some a) some = refl

still_begun : StaysActive → (list : List Activation) (early late : ℕ) → early ≤ late
    → is_some (active list early) ≡ true → is_some (active list late) ≡ true
still_begun stays list early late le begun =
    some_from (active list late) (stays list early late le (there (active list early) begun))

pub still_valid : StaysActive → (s : State) (early late : Moment) → early.secs ≤ late.secs → IsValid early s
    → IsValid late s
still_valid stays s early late le f = record {
  realm = f.realm;
  princ_order = f.princ_order;
  policy_order = f.policy_order;
  few = f.few;
  policies = f.policies;
  policies_there = f.policies_there;
  falling = f.falling;
  masters = f.masters;
  masters_rise = f.masters_rise;
  listed = f.listed;
  activations = f.activations;
  activations_rise = f.activations_rise;
  begun = still_begun stays s.activations early.secs late.secs le f.begun;
  history = f.history;
}

pub point_valid : (s : State) (time : Moment) (point : Point) → IsValid time s
    → IsValid time (record s { point = point })
point_valid s time point f = record {
  realm = f.realm;
  princ_order = f.princ_order;
  policy_order = f.policy_order;
  few = f.few;
  policies = f.policies;
  policies_there = f.policies_there;
  falling = f.falling;
  masters =
      record { entry = f.masters.entry; there = f.masters.there; keys = f.masters.keys; newest = f.masters.newest };
  masters_rise = f.masters_rise;
  listed = f.listed;
  activations = f.activations;
  activations_rise = f.activations_rise;
  begun = f.begun;
  history = record { entry = f.history.entry; there = f.history.there; one = f.history.one };
}

-- ---- principals

truth : (b : Bool) → (b ≡ true) ⊎ (b ≡ false)
truth true = inl refl
truth false = inr refl

differ : (a b : List ℕ) → bytes_eq a b ≡ false → a ≢ b
differ a b different e = let same = bytes_same a b e in absurd cc

put_found : (name : List ℕ) (q : PlainPrinc) (princs : List PlainPrinc) (o : Option PlainPrinc) → name ≢ q.name
    → princ_named name princs ≡ o → princ_named name (put_by name_of q princs) ≡ o
unfolding princ_named
put_found name q princs o other is = put_other name_of name q princs other ∙ is

drop_found : (name gone : List ℕ) (princs : List PlainPrinc) (o : Option PlainPrinc) → name ≢ gone
    → princ_named name princs ≡ o → princ_named name (drop_by name_of gone princs) ≡ o
unfolding princ_named
drop_found name gone princs o other is = drop_other name_of name gone princs other ∙ is

abbrev IsUnder : State → PlainPrinc → Type 0
IsUnder s q = IsListed s.masters q.mkvno

put_history : (q : PlainPrinc) (s : State) → (q.name ≡ history_name s.realm → length q.keys ≡ 1) → HasHistory s
    → HasHistory (put_princ q s)
unfolding princ_named
put_history q s one h =
    elim (truth (bytes_eq (history_name s.realm) q.name)) [
      | inl same ↦
          let is = same_bytes (history_name s.realm) q.name same in
          record {
            entry = q;
            there = subst (λ (n : List ℕ). princ_named n (put_by name_of q s.princs) ≡ Some q) (sym is)
                (put_own name_of q s.princs);
            one = one (sym is);
          }
      | inr other ↦ record {
        entry = h.entry;
        there = put_found (history_name s.realm) q s.princs (Some h.entry)
            (λ e. differ (history_name s.realm) q.name other e) h.there;
        one = h.one;
      }
    ]

pub put_valid : (time : Moment) (s : State) (q : PlainPrinc) → IsValid time s → MayBePut s.realm q
    → IsListed s.masters q.mkvno → HasItsPolicy s.policies q
    → length (put_princ q s).princs + length s.policies ≤ most_rows → IsValid time (put_princ q s)
put_valid time s q f fits under policy room = record {
  realm = f.realm;
  princ_order = put_order name_of q s.princs f.princ_order;
  policy_order = f.policy_order;
  few = room;
  policies = f.policies;
  policies_there = put_each (HasItsPolicy s.policies) name_of q s.princs policy f.policies_there;
  falling = put_each (λ (o : PlainPrinc). NeverRise o.keys) name_of q s.princs fits.falling f.falling;
  masters = record {
    entry = f.masters.entry;
    there = put_found (master_name s.realm) q s.princs (Some f.masters.entry)
        (λ e. fits.other_than_master (sym e)) f.masters.there;
    keys = f.masters.keys;
    newest = f.masters.newest;
  };
  masters_rise = f.masters_rise;
  listed = put_each (IsUnder s) name_of q s.princs under f.listed;
  activations = f.activations;
  activations_rise = f.activations_rise;
  begun = f.begun;
  history = put_history q s fits.one_history_key f.history;
}

pub drop_valid : (time : Moment) (s : State) (name : List ℕ) → IsValid time s → IsOrdinary s.realm name
    → IsValid time (drop_princ name s)
drop_valid time s name f ordinary = record {
  realm = f.realm;
  princ_order = drop_order name_of name s.princs f.princ_order;
  policy_order = f.policy_order;
  few = omega (arith, f.few, drop_short name_of name s.princs);
  policies = f.policies;
  policies_there = drop_each (HasItsPolicy s.policies) name_of name s.princs f.policies_there;
  falling = drop_each (λ (o : PlainPrinc). NeverRise o.keys) name_of name s.princs f.falling;
  masters = record {
    entry = f.masters.entry;
    there = drop_found (master_name s.realm) name s.princs (Some f.masters.entry)
        (λ e. ordinary.other_than_master (sym e)) f.masters.there;
    keys = f.masters.keys;
    newest = f.masters.newest;
  };
  masters_rise = f.masters_rise;
  listed = drop_each (IsUnder s) name_of name s.princs f.listed;
  activations = f.activations;
  activations_rise = f.activations_rise;
  begun = f.begun;
  history = record {
    entry = f.history.entry;
    there = drop_found (history_name s.realm) name s.princs (Some f.history.entry)
        (λ e. ordinary.other_than_history (sym e)) f.history.there;
    one = f.history.one;
  };
}

-- ---- policies

each : (F G : PlainPrinc → Type 0) → ((q : PlainPrinc) → F q → G q) → (qs : List PlainPrinc) → AllByRecursion F qs
    → AllByRecursion G qs
each F G to [] h = tt
each F G to (q ∷ qs) h = (to q h.0, each F G to qs h.1)

-- it names another policy
named_not : (q : PlainPrinc) (name gone : List ℕ) → q.policy ≡ Some name → uses gone q ≡ false → name ≢ gone
named_not q name gone is unused = differ name gone (sym (ap (is_name gone) is) ∙ unused)

-- a policy that is there stays there
stays : (p : Rules) (policies : List Rules) (name : List ℕ) → has_policy name policies ≡ true
    → has_policy name (put_by policy_name p policies) ≡ true
unfolding policy_named
stays p policies name there =
    elim (truth (bytes_eq name p.name)) [
      | inl same ↦ subst (λ (n : List ℕ). has_policy n (put_by policy_name p policies) ≡ true)
          (sym (same_bytes name p.name same)) (ap is_some (put_own policy_name p policies))
      | inr other ↦ ap is_some (put_other policy_name name p policies (λ e. differ name p.name other e)) ∙ there
    ]

some_stays : (p : Rules) (policies : List Rules) (o : Option (List ℕ))
    → IfSome o (λ name. IsTrue (has_policy name policies))
    → IfSome o (λ name. IsTrue (has_policy name (put_by policy_name p policies)))
some_stays p policies None h = tt
some_stays p policies (Some name) h = stays p policies name h

pub put_policy_valid : (time : Moment) (s : State) (p : Rules) → IsValid time s → IsPolicy p
    → length s.princs + length (put_policy p s).policies ≤ most_rows → IsValid time (put_policy p s)
put_policy_valid time s p f fits room = record {
  realm = f.realm;
  princ_order = f.princ_order;
  policy_order = put_order policy_name p s.policies f.policy_order;
  few = room;
  policies = put_each IsPolicy policy_name p s.policies fits f.policies;
  policies_there = All-from_recursion (HasItsPolicy (put_by policy_name p s.policies)) s.princs
      (each (HasItsPolicy s.policies) (HasItsPolicy (put_by policy_name p s.policies))
      (λ q h. some_stays p s.policies q.policy h) s.princs
      (recursion_from_All (HasItsPolicy s.policies) s.princs f.policies_there));
  falling = f.falling;
  masters =
      record { entry = f.masters.entry; there = f.masters.there; keys = f.masters.keys; newest = f.masters.newest };
  masters_rise = f.masters_rise;
  listed = f.listed;
  activations = f.activations;
  activations_rise = f.activations_rise;
  begun = f.begun;
  history = record { entry = f.history.entry; there = f.history.there; one = f.history.one };
}

-- a policy of another name is left
left : (gone : List ℕ) (policies : List Rules) (name : List ℕ) → name ≢ gone → has_policy name policies ≡ true
    → has_policy name (drop_by policy_name gone policies) ≡ true
unfolding policy_named
left gone policies name other there = ap is_some (drop_other policy_name name gone policies other) ∙ there

some_left : (gone : List ℕ) (policies : List Rules) (q : PlainPrinc) (o : Option (List ℕ)) → q.policy ≡ o
    → uses gone q ≡ false
    → IfSome o (λ name. IsTrue (has_policy name policies))
    → IfSome o (λ name. IsTrue (has_policy name (drop_by policy_name gone policies)))
some_left gone policies q None is unused h = tt
some_left gone policies q (Some name) is unused h = left gone policies name (λ e. named_not q name gone is unused e) h

-- none uses it
none_uses : (gone : List ℕ) (qs : List PlainPrinc) → length (filter (uses gone) qs) ≡ 0
    → AllByRecursion (λ q. uses gone q ≡ false) qs
none_uses gone [] e = tt
none_uses gone (q ∷ qs) e =
    elim (truth (uses gone q)) [
      | inl here ↦ let more : length (filter (uses gone) (q ∷ qs)) ≡ suc (length (filter (uses gone) qs)) =
          rw here refl in absurd (omega arith)
      | inr not ↦ let same : length (filter (uses gone) (q ∷ qs)) ≡ length (filter (uses gone) qs) =
          rw not refl in (not, none_uses gone qs (sym same ∙ e))
    ]

all_left : (gone : List ℕ) (policies : List Rules) (qs : List PlainPrinc) → AllByRecursion (λ q. uses gone q ≡ false) qs
    → AllByRecursion (HasItsPolicy policies) qs
    → AllByRecursion (HasItsPolicy (drop_by policy_name gone policies)) qs
all_left gone policies [] unused h = tt
all_left gone policies (q ∷ qs) unused h =
    (some_left gone policies q q.policy refl unused.0 h.0, all_left gone policies qs unused.1 h.1)

pub drop_policy_valid : (time : Moment) (s : State) (name : List ℕ) → IsValid time s → users_of name s.princs ≡ 0
    → IsValid time (drop_policy name s)
unfolding users_of
drop_policy_valid time s name f unused = record {
  realm = f.realm;
  princ_order = f.princ_order;
  policy_order = drop_order policy_name name s.policies f.policy_order;
  few = omega (arith, f.few, drop_short policy_name name s.policies);
  policies = drop_each IsPolicy policy_name name s.policies f.policies;
  policies_there = All-from_recursion (HasItsPolicy (drop_by policy_name name s.policies)) s.princs
      (all_left name s.policies s.princs (none_uses name s.princs unused)
      (recursion_from_All (HasItsPolicy s.policies) s.princs f.policies_there));
  falling = f.falling;
  masters =
      record { entry = f.masters.entry; there = f.masters.there; keys = f.masters.keys; newest = f.masters.newest };
  masters_rise = f.masters_rise;
  listed = f.listed;
  activations = f.activations;
  activations_rise = f.activations_rise;
  begun = f.begun;
  history = record { entry = f.history.entry; there = f.history.there; one = f.history.one };
}
