-- The format of policies agrees both ways, and how long a policy may be.
use Rattle.std.proofs.Common.{◌≡◌, ℕ, ◌≤◌, ◌&&◌, true, leb, List, length, refl, arith, ◌+◌, ◌++◌}
use Rattle.std.specs.List.{list_all}
use Rattle.std.proofs.lemmas.Bool.{and_parts, leb-true}
use Rattle.kdb_format.specs.Fields.{IsField}
use Rattle.kdb_format.specs.Laws.{same_field, first_field, then_field, last_field}
use Rattle.kdb_format.specs.Laws.{big_field, checked_field, counted_field}
use Rattle.policy_rules.specs.Names.{is_policy_name, begins_alphanumeric, is_name_byte}
use Rattle.policy_rules.specs.Ranges.{is_min_length, is_min_classes, is_history}
use Rattle.policy_rules.specs.Rules.{Rules}
use Rattle.princ_record.specs.Policies.{policy_at, policy, IsPolicy}
use Rattle.std.proofs.lemmas.List.{length-append}
use Rattle.kdb_format.specs.Spellings.{big, counted}
use Rattle.kdb_format.specs.Lengths.{length-counted}
use Rattle.kdb_format.specs.Numbers.{length-big}

-- a name of a policy has at most 64 bytes
pub short_name : (name : List ℕ) → is_policy_name name ≡ true → length name ≤ 64
unfolding is_policy_name
short_name name e = leb-true _ _ (and_parts (leb (length name) 64) (begins_alphanumeric name)
    (and_parts (leb (length name) 64 && begins_alphanumeric name) (list_all is_name_byte name) e).0).0

at_most : (least most n : ℕ) → leb least n && leb n most ≡ true → n ≤ most
at_most least most n e = leb-true _ _ (and_parts (leb least n) (leb n most) e).1

same_rules : (p : Rules) (name : List ℕ) (max_life min_life min_length min_classes : ℕ)
    → p.name ≡ name → p.max_life ≡ max_life → p.min_life ≡ min_life → p.min_length ≡ min_length
    → p.min_classes ≡ min_classes
    → ◌≡◌ {A = Rules} (record {
      name = name;
      max_life = max_life;
      min_life = min_life;
      min_length = min_length;
      min_classes = min_classes;
      history = p.history;
    }) p
same_rules p name max_life min_life min_length min_classes a b c d e = rw (← a, ← b, ← c, ← d, ← e) refl

pub policy_field : IsField policy_at policy IsPolicy
unfolding policy_at policy
policy_field = same_field
    (first_field (checked_field is_policy_name counted_field) (λ (p : Rules). p.name) (λ name _.
    then_field (big_field 4) (λ (p : Rules). p.max_life) (λ max_life _.
    then_field (big_field 4) (λ (p : Rules). p.min_life) (λ min_life _.
    then_field (checked_field is_min_length (big_field 2)) (λ (p : Rules). p.min_length) (λ min_length _.
    then_field (checked_field is_min_classes (big_field 2)) (λ (p : Rules). p.min_classes) (λ min_classes _.
    last_field (checked_field is_history (big_field 2)) (λ (p : Rules). p.history) (λ history. record {
      name = name;
      max_life = max_life;
      min_life = min_life;
      min_length = min_length;
      min_classes = min_classes;
      history = history;
    })
    (λ _ _. (refl, (refl, (refl, (refl, (refl, refl))))))
    (λ p k. same_rules p name max_life min_life min_length min_classes k.1.1.1.1 k.1.1.1.0 k.1.1.0 k.1.0 k.0)))))))
    (λ p f. (
      refl,
      record {
        named = f.0.1;
        max_life = f.1.0;
        min_life = f.1.1.0;
        length = f.1.1.1.0.1;
        classes = f.1.1.1.1.0.1;
        remembered = f.1.1.1.1.1.1;
      },
    ))
    (λ p f.
    let name = short_name p.name f.named in
    let len = at_most 1 255 p.min_length f.length in
    let classes = at_most 1 5 p.min_classes f.classes in
    let history = at_most 1 16 p.history f.remembered in (
      (omega arith, f.named),
      (f.max_life, (f.min_life, ((omega arith, f.length), ((omega arith, f.classes), (omega arith, f.remembered))))),
    ))

-- ---- how long a policy is

pub length-policy : (p : Rules) → length (policy p) ≡ 16 + length p.name
unfolding policy
length-policy p =
    omega (
      arith,
      length-append (counted p.name)
          (big 4 p.max_life ++ (big 4 p.min_life ++ (big 2 p.min_length ++ (big 2 p.min_classes ++ big 2 p.history)))),
      length-append (big 4 p.max_life)
          (big 4 p.min_life ++ (big 2 p.min_length ++ (big 2 p.min_classes ++ big 2 p.history))),
      length-append (big 4 p.min_life) (big 2 p.min_length ++ (big 2 p.min_classes ++ big 2 p.history)),
      length-append (big 2 p.min_length) (big 2 p.min_classes ++ big 2 p.history),
      length-append (big 2 p.min_classes) (big 2 p.history),
      length-counted p.name,
      length-big 4 p.max_life,
      length-big 4 p.min_life,
      length-big 2 p.min_length,
      length-big 2 p.min_classes,
      length-big 2 p.history,
    )

-- a policy's row has at most 80 bytes
pub policy_short : (p : Rules) → IsPolicy p → length (policy p) ≤ 80
policy_short p f = let le = short_name p.name f.named in omega (arith, length-policy p)
