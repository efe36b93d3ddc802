-- The format of principals agrees both ways, and keys may be replaced.
use Rattle.std.proofs.Common.{◌≡◌, ℕ, ◌^◌, ◌<◌, Bool, true, false, suc, eqb, List, [], ◌∷◌, ◌++◌}
use Rattle.std.proofs.Common.{length, Option, Some, None, refl, sym, subst, ◌∙◌, arith, inl, inr}
use Rattle.std.proofs.lemmas.Bool.{or_cases, both_ways, false≢true}
use Rattle.std.proofs.Math.Dec.{eqb-suc-zero}
use Rattle.kdb_format.specs.Readings.{◌>>=◌, done, checked, big_at}
use Rattle.kdb_format.specs.Spellings.{big, counted}
use Rattle.kdb_format.specs.Fields.{IsField}
use Rattle.kdb_format.specs.Laws.{same_field, first_field, then_field, last_field}
use Rattle.kdb_format.specs.Laws.{made_field, big_field, checked_field, counted_field}
use Rattle.policy_rules.specs.Names.{is_policy_name}
use Rattle.princ_record.specs.PolicyLaws.{short_name}
use Rattle.princ_name.specs.Printed.{is_printed, is_master}
use Rattle.princ_name.specs.PrintedLaws.{printed_test, test_printed, printed_short}
use Rattle.tagged_data.specs.Numbers.{IsVersion}
use Rattle.princ_keys.specs.Keys.{keys_at, keys_text, AreKeys, fit_name}
use Rattle.princ_keys.specs.KeyLaws.{keys_field, masters_from, masters_to}
use Rattle.princ_keys.specs.Remembered.{old_sets_at, old_sets, AreOldSets}
use Rattle.princ_keys.specs.RememberedLaws.{old_sets_field}
use Rattle.princ_record.specs.Facts.{facts_at, facts, IsFacts}
use Rattle.princ_record.specs.FactLaws.{facts_field}
use Rattle.princ_keys.specs.declared.keys.KeyItem.{KeyItem}
use Rattle.princ_record.specs.declared.facts.Facts.{Facts}
use Rattle.princ_record.specs.declared.princs.Lives.{Lives}
use Rattle.princ_record.specs.declared.princs.Princ.{Princ}
use Rattle.princ_record.specs.Princs.{are_attributes, policy_of, name_of, is_policy_or_none}
use Rattle.princ_record.specs.Princs.{policy_name_at, IsPolicyOr, lives_at, lives, AreLives, lives_of}
use Rattle.princ_record.specs.Princs.{facts_of, princ_of, princ_at, princ, IsPrinc, with_keys, FitKeys}

-- ---- the policy's name, which is empty for none

no_empty_name : is_policy_name [] ≡ true → ⊥
unfolding is_policy_name
no_empty_name e = absurd cc

named : (name : List ℕ) → is_policy_or_none name ≡ true
    → (counted name ≡ counted (name_of (policy_of name))) × IsPolicyOr (policy_of name)
unfolding policy_of name_of
named [] e = (refl, tt)
named (b ∷ name) e =
    elim (or_cases (eqb (suc (length name)) 0) (is_policy_name (b ∷ name)) e) [
      | inl none ↦ absurd (false≢true (sym (eqb-suc-zero (length name)) ∙ none))
      | inr name ↦ (refl, name)
    ]

named_again : (p : Option (List ℕ)) → IsPolicyOr p
    → (name : List ℕ) × (((length name < 2 ^ 16) × (is_policy_or_none name ≡ true)) × (policy_of name ≡ p))
unfolding policy_of
named_again None f = let none : List ℕ = [] in (none, ((omega arith, refl), refl))
named_again (Some []) f = absurd (no_empty_name f)
named_again (Some (b ∷ name)) f =
    let all : List ℕ = b ∷ name in
    let short = short_name all f in (all, ((omega arith, rw (eqb-suc-zero (length name)) f), refl))

policy_name_field : IsField policy_name_at (λ p. counted (name_of p)) IsPolicyOr
unfolding policy_name_at
policy_name_field = made_field (checked_field is_policy_or_none counted_field) policy_of
    (λ name f. named name f.1)
    (λ p f. named_again p f)

-- ---- lives and expirations, in seconds

same_lives : (v : Lives) (a b c : ℕ) → v.max_life ≡ a → v.max_renew ≡ b → v.expire ≡ c
    → ◌≡◌ {A = Lives} (record { max_life = a; max_renew = b; expire = c; pw_expire = v.pw_expire }) v
same_lives v a b c x y z = rw (← x, ← y, ← z) refl

lives_field : IsField lives_at lives AreLives
unfolding lives_at lives
lives_field = same_field
    (first_field (big_field 4) (λ (v : Lives). v.max_life) (λ max_life _.
    then_field (big_field 4) (λ (v : Lives). v.max_renew) (λ max_renew _.
    then_field (big_field 4) (λ (v : Lives). v.expire) (λ expire _.
    last_field (big_field 4) (λ (v : Lives). v.pw_expire)
    (λ pw_expire. record { max_life = max_life; max_renew = max_renew; expire = expire; pw_expire = pw_expire })
    (λ _ _. (refl, (refl, (refl, refl))))
    (λ v k. same_lives v max_life max_renew expire k.1.1 k.1.0 k.0)))))
    (λ v f. (refl, record { max_life = f.0; max_renew = f.1.0; expire = f.1.1.0; pw_expire = f.1.1.1 }))
    (λ v f. (f.max_life, (f.max_renew, (f.expire, f.pw_expire))))

-- ---- the principal

same_princ : (p : Princ) (name : List ℕ) (attributes : ℕ) (v : Lives) (f : Facts) (keys : List KeyItem)
    (policy : Option (List ℕ))
    → p.name ≡ name → p.attributes ≡ attributes → lives_of p ≡ v → facts_of p ≡ f → p.keys ≡ keys → p.policy ≡ policy
    → princ_of name attributes v f keys policy p.old ≡ p
same_princ p name attributes v f keys policy a b c d e g = rw (← a, ← b, ← c, ← d, ← e, ← g) refl

-- what is known of the fields behind the tagged list, and before them
abbrev BehindFacts : Bool → Princ → Type 0
BehindFacts master p =
    (AreKeys p.keys × (fit_name master p.mkvno p.keys ≡ true)) × (IsPolicyOr p.policy × AreOldSets p.old)

abbrev Before : List ℕ → ℕ → Lives → Facts → Princ → Type 0
Before name attributes v f p = (facts_of p ≡ f) × ((lives_of p ≡ v) × ((p.attributes ≡ attributes) × (p.name ≡ name)))

fits_told : (master : Bool) (p : Princ) (f g : Facts) → f ≡ g → fit_name master f.mkvno p.keys ≡ true
    → fit_name master g.mkvno p.keys ≡ true
fits_told master p f g e fits = subst (λ (x : Facts). fit_name master x.mkvno p.keys ≡ true) e fits

behind_facts_field : (name : List ℕ) (attributes : ℕ) (v : Lives) (f : Facts) → IsField
    (checked (fit_name (is_master name) f.mkvno) keys_at >>= λ keys. policy_name_at >>= λ policy. old_sets_at
    >>= λ old. done (princ_of name attributes v f keys policy old))
    (λ p. keys_text p.keys ++ (counted (name_of p.policy) ++ old_sets p.old))
    (λ p. Before name attributes v f p × BehindFacts (is_master name) p)
behind_facts_field name attributes v f = same_field
    (then_field {K = Before name attributes v f} (checked_field (fit_name (is_master name) f.mkvno) keys_field)
    (λ (p : Princ). p.keys) (λ keys _.
    then_field policy_name_field (λ (p : Princ). p.policy) (λ policy _.
    last_field old_sets_field (λ (p : Princ). p.old) (λ old. princ_of name attributes v f keys policy old)
    (λ _ _. (refl, (refl, (refl, (refl, (refl, (refl, refl)))))))
    (λ p k. same_princ p name attributes v f keys policy k.1.1.1.1.1 k.1.1.1.1.0 k.1.1.1.0 k.1.1.0 k.1.0 k.0))))
    (λ p g. (refl, (g.0, ((g.1.0.0, fits_told (is_master name) p f (facts_of p) (sym g.0.0) g.1.0.1), g.1.1))))
    (λ p g. (g.0, ((g.1.0.0, fits_told (is_master name) p (facts_of p) f g.0.0 g.1.0.1), g.1.1)))

-- what is known of the fields behind the name
abbrev OfName : Bool → Princ → Type 0
OfName master p = IsFacts master (facts_of p) × BehindFacts master p

abbrev Behind : Princ → Type 0
Behind p = ((p.attributes < 2 ^ 32) × (are_attributes p.attributes ≡ true))
    × (AreLives (lives_of p) × OfName (is_master p.name) p)

of_name : (p : Princ) (a b : List ℕ) → a ≡ b → OfName (is_master a) p → OfName (is_master b) p
of_name p a b e f = subst (λ (n : List ℕ). OfName (is_master n) p) e f

behind_name_field : (name : List ℕ) → IsField
    (checked are_attributes (big_at 4) >>= λ attributes. lives_at >>= λ lives. facts_at (is_master name)
    >>= λ facts. checked (fit_name (is_master name) facts.mkvno) keys_at >>= λ keys. policy_name_at
    >>= λ policy. old_sets_at >>= λ old. done (princ_of name attributes lives facts keys policy old))
    (λ p. big 4 p.attributes ++ (lives (lives_of p)
    ++ (facts (facts_of p) ++ (keys_text p.keys ++ (counted (name_of p.policy) ++ old_sets p.old)))))
    (λ p. (p.name ≡ name) × Behind p)
behind_name_field name = same_field
    (then_field {K = λ (p : Princ). p.name ≡ name} (checked_field are_attributes (big_field 4))
    (λ (p : Princ). p.attributes) (λ attributes _.
    then_field lives_field lives_of (λ lives _.
    then_field (facts_field (is_master name)) facts_of (λ facts _. behind_facts_field name attributes lives facts))))
    (λ p f. (refl, (f.0, (f.1.0, (f.1.1.0, of_name p name p.name (sym f.0) f.1.1.1)))))
    (λ p f. (f.0, (f.1.0, (f.1.1.0, of_name p p.name name f.0 f.1.1.1))))

pub princ_field : IsField princ_at princ IsPrinc
unfolding princ_at princ
princ_field = same_field
    (first_field (checked_field is_printed counted_field) (λ (p : Princ). p.name) (λ name _. behind_name_field name))
    (λ p f.
    let b = f.1.1.1 in (
      refl,
      record {
        name = test_printed p.name f.0.1;
        attributes = f.1.0.1;
        attributes_short = f.1.0.0;
        lives = f.1.1.0;
        facts = b.0;
        keys = b.1.0.0;
        masters = masters_from (is_master p.name) p.mkvno p.keys b.1.0.1;
        policy = b.1.1.0;
        old = b.1.1.1;
      },
    ))
    (λ p f.
    let short = printed_short p.name f.name in (
      (omega arith, printed_test p.name f.name),
      (
        (f.attributes_short, f.attributes),
        (f.lives, (f.facts, ((f.keys, masters_to (is_master p.name) p.mkvno p.keys f.masters), (f.policy, f.old)))),
      ),
    ))

-- ---- records that differ in their keys

pub with_keys_fits : (p : Princ) (version : ℕ) (keys : List KeyItem) → IsPrinc p → FitKeys p version keys
    → IsPrinc (with_keys version keys p)
with_keys_fits p version keys f g = record {
  name = f.name;
  attributes = f.attributes;
  attributes_short = f.attributes_short;
  lives = f.lives;
  facts = record {
    pw_changed = f.facts.pw_changed;
    modified = f.facts.modified;
    modifier = f.facts.modifier;
    mkvno = g.known;
    chain_there = f.facts.chain_there;
    chain = f.facts.chain;
    strings = f.facts.strings;
    no_strings = f.facts.no_strings;
  };
  keys = g.fit;
  masters = g.masters;
  policy = f.policy;
  old = f.old;
}

-- of another principal than K/M
pub other_keys_fit : (p : Princ) (version : ℕ) (keys : List KeyItem) → is_master p.name ≡ false → IsVersion version
    → AreKeys keys → FitKeys p version keys
other_keys_fit p version keys other v k =
    record { known = v; fit = k; masters = λ is. absurd (both_ways (is_master p.name) other is) }
