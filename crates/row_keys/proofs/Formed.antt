-- A record that shows a plain principal has a spelling where the plain principal is formed.
use Rattle.std.proofs.Common.{◌≡◌, List, [], ◌∷◌, Option, Some, None, refl, sym, ap, subst, ◌∙◌, arith}
use Rattle.std.specs.Prelude.{is_some, not, nat_eq, nat_lt, ◌&&◌, ◌||◌}
use Rattle.std.specs.List.{AllByRecursion, AllZip, list_all}
use Rattle.std.proofs.lemmas.Bool.{both_ways}
use Rattle.std.proofs.lemmas.List.Elements.{All-from_recursion, recursion_from_All}
use Rattle.kdb_base.specs.Etypes.{number_of}
use Rattle.kdb_base.specs.Key.{Key}
use Rattle.kdb_base.specs.declared.keys.Salt.{Salt}
use Rattle.master_keys.proofs.SideBySide.{zip_length}
use Rattle.master_keys.specs.Lengths.{short_blob}
use Rattle.princ_record.specs.Facts.{IsChainOr}
use Rattle.princ_keys.specs.Keys.{AreKeys, IsKey, IsSalt}
use Rattle.princ_keys.specs.Keys as kept
use Rattle.princ_name.specs.Printed.{is_master}
use Rattle.princ_record.specs.Princs.{IsPrinc}
use Rattle.princ_keys.specs.Remembered.{AreOldSets, IsOldKey, IsOldSet}
use Rattle.princ_record.specs.declared.facts.ChainPart.{ChainPart}
use Rattle.princ_keys.specs.declared.keys.KeyItem.{KeyItem}
use Rattle.princ_record.specs.declared.princs.Princ.{Princ}
use Rattle.princ_keys.specs.declared.remembered.OldKey.{OldKey}
use Rattle.princ_keys.specs.declared.remembered.OldSet.{OldSet}
use Rattle.kdb_plain.specs.Heads.{head}
use Rattle.plain_keys.specs.declared.items.PlainItem.{PlainItem}
use Rattle.plain_keys.specs.declared.items.PlainSet.{PlainSet}
use Rattle.kdb_plain.specs.declared.princs.PlainPrinc.{PlainPrinc}
use Rattle.row_keys.specs.Formed.{AreFields, AreItems, AreSets, IsFormed, IsItem, IsSet, are_ordered, may_follow}
use Rattle.row_keys.specs.Shows.{ShowsItem, ShowsOldKey, ShowsSet, ShowsUnder}
use Rattle.row_keys.proofs.Sides.{zip_left, zip_right}

-- ---- keys

module _ (master : Key) where
  number_alike : (item : KeyItem) (k : PlainItem) → ShowsItem master item k
      → number_of item.etype ≡ number_of k.key.etype
  number_alike item k f = ap number_of (sym f.holds.of_type)

  follow_alike : (a b : KeyItem) (k l : PlainItem) → ShowsItem master a k → ShowsItem master b l
      → kept.may_follow a b ≡ may_follow k l
  follow_alike a b k l f g =
      ap (λ n. nat_lt b.kvno n || (nat_eq b.kvno n && not (nat_eq (number_of b.etype) (number_of a.etype)))) f.kvno
      ∙ ap (λ n. nat_lt n k.kvno || (nat_eq n k.kvno && not (nat_eq (number_of b.etype) (number_of a.etype)))) g.kvno
      ∙ ap (λ n. nat_lt l.kvno k.kvno || (nat_eq l.kvno k.kvno && not (nat_eq (number_of b.etype) n)))
      (number_alike a k f)
      ∙ ap (λ n. nat_lt l.kvno k.kvno || (nat_eq l.kvno k.kvno && not (nat_eq n (number_of k.key.etype))))
      (number_alike b l g)

  all_alike : (a : KeyItem) (k : PlainItem) (items : List KeyItem) (keys : List PlainItem) → ShowsItem master a k
      → AllZip (ShowsItem master) items keys → list_all (kept.may_follow a) items ≡ list_all (may_follow k) keys
  all_alike a k [] [] f h = refl
  all_alike a k [] (l ∷ keys) f h = absurd h
  all_alike a k (b ∷ items) [] f h = absurd h
  all_alike a k (b ∷ items) (l ∷ keys) f h =
      ap (λ t. t && list_all (kept.may_follow a) items) (follow_alike a b k l f h.0)
      ∙ ap (λ t. may_follow k l && t) (all_alike a k items keys f h.1)

  ordered_alike : (items : List KeyItem) (keys : List PlainItem) → AllZip (ShowsItem master) items keys
      → kept.are_ordered items ≡ are_ordered keys
  unfolding kept.are_ordered are_ordered
  ordered_alike [] [] h = refl
  ordered_alike [] (l ∷ keys) h = absurd h
  ordered_alike (b ∷ items) [] h = absurd h
  ordered_alike (b ∷ items) (l ∷ keys) h =
      ap (λ t. t && kept.are_ordered items) (all_alike b l items keys h.0 h.1)
      ∙ ap (λ t. list_all (may_follow l) keys && t) (ordered_alike items keys h.1)

  salt_from : (a b : Salt) → a ≡ b → IsSalt a → IsSalt b
  salt_from a b e f = subst IsSalt e f

  item_from : (item : KeyItem) (k : PlainItem) → ShowsItem master item k → IsKey item → IsItem k
  item_from item k f g =
      let some = g.from_one in
      let short = g.kvno in
      record {
        from_one = omega (arith, f.kvno);
        kvno = omega (arith, f.kvno);
        salt = salt_from item.salt k.salt f.salt g.salt;
      }

  item_to : (item : KeyItem) (k : PlainItem) → ShowsItem master item k → IsItem k → IsKey item
  item_to item k f g =
      let some = g.from_one in
      let short = g.kvno in
      record {
        from_one = omega (arith, f.kvno);
        kvno = omega (arith, f.kvno);
        salt = salt_from k.salt item.salt (sym f.salt) g.salt;
        wrapped = short_blob f.holds;
      }

  pub items_from : (items : List KeyItem) (keys : List PlainItem) → AllZip (ShowsItem master) items keys → AreKeys items
      → AreItems keys
  items_from items keys h f =
      let few = f.few in
      record {
        few = omega (arith, zip_length (ShowsItem master) items keys h);
        each = All-from_recursion IsItem keys
            (zip_right (ShowsItem master) IsKey IsItem item_from items keys h (recursion_from_All IsKey items f.each));
        ordered = sym (ordered_alike items keys h) ∙ f.ordered;
      }

  pub items_to : (items : List KeyItem) (keys : List PlainItem) → AllZip (ShowsItem master) items keys → AreItems keys
      → AreKeys items
  items_to items keys h f =
      let few = f.few in
      record {
        few = omega (arith, zip_length (ShowsItem master) items keys h);
        each = All-from_recursion IsKey items
            (zip_left (ShowsItem master) IsKey IsItem item_to items keys h (recursion_from_All IsItem keys f.each));
        ordered = ordered_alike items keys h ∙ f.ordered;
      }

-- ---- remembered sets

module _ (history : Key) where
  old_short : (kept : List OldKey) (keys : List Key) → AllZip (ShowsOldKey history) kept keys
      → AllByRecursion IsOldKey kept
  old_short [] [] h = tt
  old_short [] (l ∷ keys) h = absurd h
  old_short (b ∷ items) [] h = absurd h
  old_short (b ∷ items) (l ∷ keys) h = (record { wrapped = short_blob h.0 }, old_short items keys h.1)

  set_from : (kept : OldSet) (s : PlainSet) → ShowsSet history kept s → IsOldSet kept → IsSet s
  set_from kept s f g =
      let kvno = g.kvno in
      let count = g.count in
      record {
        kvno = omega (arith, f.kvno);
        count = omega (arith, zip_length (ShowsOldKey history) kept.keys s.keys f.keys);
      }

  set_to : (kept : OldSet) (s : PlainSet) → ShowsSet history kept s → IsSet s → IsOldSet kept
  set_to kept s f g =
      let kvno = g.kvno in
      let count = g.count in
      record {
        kvno = omega (arith, f.kvno);
        count = omega (arith, zip_length (ShowsOldKey history) kept.keys s.keys f.keys);
        keys = All-from_recursion IsOldKey kept.keys (old_short kept.keys s.keys f.keys);
      }

  pub sets_from : (kept : List OldSet) (sets : List PlainSet) → AllZip (ShowsSet history) kept sets → AreOldSets kept
      → AreSets sets
  sets_from kept sets h f =
      let few = f.few in
      record {
        few = omega (arith, zip_length (ShowsSet history) kept sets h);
        each = All-from_recursion IsSet sets (zip_right (ShowsSet history) IsOldSet IsSet set_from kept sets h
            (recursion_from_All IsOldSet kept f.each));
      }

  pub sets_to : (kept : List OldSet) (sets : List PlainSet) → AllZip (ShowsSet history) kept sets → AreSets sets
      → AreOldSets kept
  sets_to kept sets h f =
      let few = f.few in
      record {
        few = omega (arith, zip_length (ShowsSet history) kept sets h);
        each = All-from_recursion IsOldSet kept
            (zip_left (ShowsSet history) IsOldSet IsSet set_to kept sets h (recursion_from_All IsSet sets f.each));
      }

-- ---- the record

no_chain : (c : Option ChainPart) → c ≡ None → IsChainOr c
no_chain None e = tt
no_chain (Some c) e = absurd cc

pub fields_of : (p : Princ) → p.chain ≡ None → IsPrinc p → AreFields (head p)
fields_of p none f = record {
  name = f.name;
  other = sym f.facts.chain_there ∙ ap is_some none;
  attributes = f.attributes;
  attributes_short = f.attributes_short;
  lives = f.lives;
  pw_changed = f.facts.pw_changed;
  modified = f.facts.modified;
  modifier = f.facts.modifier;
  mkvno = f.facts.mkvno;
  strings = f.facts.strings;
  policy = f.policy;
}

pub fields_fit : (p : Princ) → p.chain ≡ None → AreFields (head p) → AreKeys p.keys → AreOldSets p.old → IsPrinc p
fields_fit p none f keys old = record {
  name = f.name;
  attributes = f.attributes;
  attributes_short = f.attributes_short;
  lives = f.lives;
  facts = record {
    pw_changed = f.pw_changed;
    modified = f.modified;
    modifier = f.modifier;
    mkvno = f.mkvno;
    chain_there = ap is_some none ∙ sym f.other;
    chain = no_chain p.chain none;
    strings = f.strings;
    no_strings = λ is. absurd (both_ways (is_master p.name) f.other is);
  };
  keys = keys;
  masters = λ is. absurd (both_ways (is_master p.name) f.other is);
  policy = f.policy;
  old = old;
}

pub princ_formed : (master history : Key) (p : Princ) (q : PlainPrinc) → ShowsUnder master history p q → p.chain ≡ None
    → IsPrinc p → IsFormed q
princ_formed master history p q f none fits = record {
  fields = subst AreFields f.fields (fields_of p none fits);
  keys = items_from master p.keys q.keys f.keys fits.keys;
  old = sets_from history p.old q.old f.old fits.old;
}

pub formed_princ : (master history : Key) (p : Princ) (q : PlainPrinc) → ShowsUnder master history p q → p.chain ≡ None
    → IsFormed q → IsPrinc p
formed_princ master history p q f none formed =
    fields_fit p none (subst AreFields (sym f.fields) formed.fields) (items_to master p.keys q.keys f.keys formed.keys)
    (sets_to history p.old q.old f.old formed.old)
