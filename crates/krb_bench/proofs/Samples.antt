-- The record that is measured has a spelling.
use Rattle.std.proofs.Common.{◌≡◌, ℕ, ◌^◌, ◌<◌, Bool, true, false, ◌&&◌, List, [], ◌∷◌, ◌++◌}
use Rattle.std.proofs.Common.{length, Option, Some, None, refl, sym, ap, subst, ◌∙◌, arith}
use Rattle.std.specs.Prelude.{nat_lt, nat_eq, ◌||◌, not}
use Rattle.std.specs.List.{All}
use Rattle.std.proofs.lemmas.Bool.{false≢true}
use Rattle.std.proofs.lemmas.List.Elements.{All-from_recursion}
use Rattle.kdb_base.specs.Etypes.{number_of}
use Rattle.kdb_base.specs.declared.keys.Etype.{Etype}
use Rattle.kdb_base.specs.declared.keys.Etype.TheVariants.{Aes128, Aes256}
use Rattle.princ_keys.specs.Keys.{may_follow, are_ordered, IsKey, AreKeys}
use Rattle.princ_name.specs.PrintedLaws.{test_printed}
use Rattle.princ_name.specs.Printed.{is_printed, is_master}
use Rattle.princ_record.specs.Princs.{are_attributes, IsPrinc}
use Rattle.princ_keys.specs.Remembered.{IsOldSet}
use Rattle.princ_keys.specs.declared.keys.KeyItem.{KeyItem}
use Rattle.princ_keys.specs.declared.remembered.OldSet.{OldSet}
use Rattle.princ_record.specs.declared.princs.Princ.{Princ}
use Rattle.tagged_data.specs.Strings.{AreStrings}
use Rattle.tagged_data.specs.StringLaws.{no_strings as without_strings}
use Rattle.tagged_data.specs.declared.string_attributes.StringAttribute.{StringAttribute}

pub pushed : {X : Type 0} (before one two all : List X) (a b : X) → before ≡ [] → one ≡ before ++ a ∷ []
    → two ≡ one ++ b ∷ [] → all ≡ two → all ≡ a ∷ b ∷ []
pushed {X = X} before one two all a b none e f g =
    g ∙ f ∙ ap (λ (xs : List X). xs ++ b ∷ []) (e ∙ ap (λ (xs : List X). xs ++ a ∷ []) none)

follows : (k l : ℕ) (e f : Etype) → k ≡ 2 → l ≡ 2 → e ≡ Aes256 → f ≡ Aes128
    → nat_lt l k || (nat_eq l k && not (nat_eq (number_of f) (number_of e))) ≡ true
follows k l e f a b c d = rw (a, b, c, d) refl

pub two_keys : (keys : List KeyItem) (a b : KeyItem) → keys ≡ a ∷ b ∷ [] → IsKey a → IsKey b → a.kvno ≡ 2 → b.kvno ≡ 2
    → a.etype ≡ Aes256 → b.etype ≡ Aes128 → AreKeys keys
unfolding are_ordered
two_keys keys a b same f g i j k l =
    let ordered : are_ordered (a ∷ b ∷ []) ≡ true = rw (follows a.kvno b.kvno a.etype b.etype i j k l) refl in
    subst AreKeys (sym same) (record {
      few = omega arith;
      each = All-from_recursion IsKey (a ∷ b ∷ []) (f, (g, tt));
      ordered = ordered;
    })

-- a principal of these names and keys, with no remembered set
pub sample_is : (name modifier : List ℕ) (keys : List KeyItem) (old : List OldSet) (strings : List StringAttribute)
    → is_printed name ≡ true → is_master name ≡ false → is_printed modifier ≡ true → AreKeys keys → old ≡ []
    → strings ≡ []
    → IsPrinc (record {
      name = name;
      attributes = 0;
      max_life = 36000;
      max_renew = 604800;
      expire = 0;
      pw_expire = 0;
      pw_changed = Some 1700000000;
      modified = 1700000000;
      modifier = modifier;
      mkvno = 1;
      keys = keys;
      policy = None;
      old = old;
      chain = None;
      strings = strings;
    })
unfolding are_attributes
sample_is name modifier keys old strings a b c f none plain = record {
  name = test_printed name a;
  attributes = refl;
  attributes_short = omega arith;
  lives = record { max_life = omega arith; max_renew = omega arith; expire = omega arith; pw_expire = omega arith };
  facts = record {
    pw_changed = omega arith;
    modified = omega arith;
    modifier = test_printed modifier c;
    mkvno = record { some = omega arith; short = omega arith };
    chain_there = sym b;
    chain = tt;
    strings = subst AreStrings (sym plain) without_strings;
    no_strings = λ _. plain;
  };
  keys = f;
  masters = λ m. absurd (false≢true (sym b ∙ m));
  policy = tt;
  old = record {
    few = omega (arith, ap (λ (sets : List OldSet). length sets) none);
    each = subst (λ (sets : List OldSet). All IsOldSet sets) (sym none) (All-from_recursion IsOldSet [] tt);
  };
}
