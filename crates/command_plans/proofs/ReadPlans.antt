-- Plans of getprinc, getstrs, extract, listprincs and getprivs.
use Rattle.std.proofs.Common.{◌≡◌, ℕ, Bool, ◌&&◌, List, [], ◌∷◌, map, Option, Some, None, refl, sym, ap, ◌∙◌}
use Rattle.std.specs.Prelude.{Ok, Err, is_none, is_some}
use Rattle.std.specs.List.{AllZip, list_any}
use Rattle.kadm_commands.specs.declared.commands.Command.{Command}
use Rattle.kadm_commands.specs.declared.commands.Command.TheVariants as command
use Rattle.kadm_commands.specs.declared.replies.Reply.TheVariants as reply
use Rattle.kadm_commands.specs.declared.shown.KeyShown.{KeyShown}
use Rattle.kadm_commands.specs.declared.shown.PrincShown.{PrincShown}
use Rattle.command_plans.specs.Causes.{denial_of, denial_unless, is_locked_record}
use Rattle.command_plans.specs.Given.{IsGiven, IsJudged}
use Rattle.command_plans.specs.ShownRecords.{key_shown, record_shown}
use Rattle.command_plans.specs.declared.given.Given.{Given}
use Rattle.command_plans.specs.declared.planned.Planned.TheVariants.{Answer}
use Rattle.command_plans.proofs.CommandTests.{extract_tests, list_tests, privileges_tests, show_tests, strings_tests}
use Rattle.command_plans.proofs.Lists.{both, early, later, nested, none_missing}
use Rattle.command_plans.proofs.Seen.{ComesTo, absent_alike, access_of, answered}
use Rattle.command_plans.proofs.Seen.{comes, found_both, locked_alike, refused}
use Rattle.kdb_base.specs.Key.{Key}
use Rattle.kdb_base.specs.declared.extracts.Extract.{Extract}
use Rattle.kdb_base.specs.declared.outcomes.Refusal.{Refusal}
use Rattle.kdb_base.specs.declared.outcomes.Refusal.TheVariants.{LockedDown, Protected, UnknownPrincipal}
use Rattle.kdb_base.specs.declared.versions.Master.{Master}
use Rattle.kdb_model.specs.Access.{asking, asking_alone, extracting, inquiring}
use Rattle.kdb_model.specs.Access.{listing, privileges, privileges_by, same_name}
use Rattle.kdb_model.specs.Calls.{Call}
use Rattle.kdb_model.specs.Entries.{entry_of}
use Rattle.kdb_model.specs.Refusals.{first, is_protected, target, when}
use Rattle.kdb_model.specs.Steps.{key_shown as plain_shown, names_in, reading_of, shown_of}
use Rattle.kdb_plain.specs.Heads.{plain_head}
use Rattle.kdb_plain.specs.Lists.{princ_names}
use Rattle.kdb_plain.specs.States.{master_of, princ_named}
use Rattle.kdb_plain.specs.declared.princs.PlainPrinc.{PlainPrinc}
use Rattle.kdb_plain.specs.declared.states.State.{State}
use Rattle.plain_keys.specs.Keys.{extracts}
use Rattle.plain_keys.specs.declared.items.PlainItem.{PlainItem}
use Rattle.princ_keys.specs.declared.keys.KeyItem.{KeyItem}
use Rattle.princ_name.specs.Names.{NameParts, printed}
use Rattle.princ_record.specs.declared.princs.Princ.{Princ}
use Rattle.princ_rows.specs.Rows.{princ_keys}
use Rattle.row_keys.proofs.Names.{same_name as same_names}
use Rattle.row_keys.proofs.Sides.{both_beside}
use Rattle.row_keys.specs.Lookups.{record_named}
use Rattle.row_keys.specs.Shows.{ShowsItem, ShowsPrinc}
use Rattle.row_keys.specs.Sides.{AreBoth, IsBeside}
use Rattle.tagged_data.specs.declared.string_attributes.StringAttribute.{StringAttribute}

-- ---- what is shown

key_alike : (master : Key) (item : KeyItem) (k : PlainItem) → ShowsItem master item k → key_shown item ≡ plain_shown k
key_alike master item k f = rw (f.kvno, f.salt, ← f.holds.of_type) refl

keys_alike : (master : Key) (items : List KeyItem) (keys : List PlainItem) → AllZip (ShowsItem master) items keys
    → map key_shown items ≡ map plain_shown keys
keys_alike master [] [] f = refl
keys_alike master [] (k ∷ keys) f = absurd f
keys_alike master (item ∷ items) [] f = absurd f
keys_alike master (item ∷ items) (k ∷ keys) f =
    ap (λ (x : KeyShown). x ∷ map key_shown items) (key_alike master item k f.0)
    ∙ ap (λ (xs : List KeyShown). plain_shown k ∷ xs) (keys_alike master items keys f.1)

-- of these fields and these keys
abbrev shown_by : Princ → List KeyShown → PrincShown
shown_by h keys = record {
  name = h.name;
  expire = h.expire;
  pw_expire = h.pw_expire;
  pw_changed = h.pw_changed;
  max_life = h.max_life;
  max_renew = h.max_renew;
  modified = h.modified;
  modifier = h.modifier;
  mkvno = h.mkvno;
  attributes = h.attributes;
  policy = h.policy;
  keys = keys;
}

shown_alike : (masters : List Master) (history : Key) (p : Princ) (q : PlainPrinc) → ShowsPrinc masters history p q
    → record_shown p ≡ shown_of q
unfolding record_shown shown_of
shown_alike masters history p q f =
    ap (λ (h : Princ). shown_by h (map key_shown p.keys)) f.under.fields
    ∙ ap (λ (ks : List KeyShown). shown_by (plain_head q) ks) (keys_alike f.master p.keys q.keys f.under.keys)

-- ---- a principal

module _ (g : Given) (cmd : Command) (name : NameParts) (text : List ℕ) (found : Option Princ)
    (text_is : text ≡ printed name) (found_is : found ≡ record_named text g.rows.now.princs)
    (s : State) (call : Call) (given : IsGiven g cmd s call) where
  pub sides : AreBoth (ShowsPrinc s.masters given.seen.shows.history) found (princ_named (printed name) s.princs)
  sides = found_both g cmd s call given (printed name) text found text_is found_is

  pub absent_so : when (is_none (princ_named (printed name) s.princs)) UnknownPrincipal
      ≡ when (is_none found) UnknownPrincipal
  absent_so = ap (λ b. when b UnknownPrincipal)
      (sym (absent_alike s.masters given.seen.shows.history found (princ_named (printed name) s.princs) sides))

  pub beside : (p : Princ) → found ≡ Some p
      → IsBeside (ShowsPrinc s.masters given.seen.shows.history) p (princ_named (printed name) s.princs)
  beside p is =
      both_beside (ShowsPrinc s.masters given.seen.shows.history) found (princ_named (printed name) s.princs) p sides is

-- ---- getprinc

module _ (g : Given) (name : NameParts) (text : List ℕ) (own : Bool) (found : Option Princ) (denied : Option Refusal)
    (text_is : text ≡ printed name)
    (found_is : found ≡ record_named text g.rows.now.princs)
    (own_is : own ≡ same_name g.client.now name)
    (denied_is : denied ≡ denial_unless own (access_of g) g.client.now (asking inquiring name ∷ [])) where
  pub show_comes : ComesTo g (command.GetPrinc name) (denied ∷ when (is_none found) UnknownPrincipal ∷ [])
  show_comes = comes g (command.GetPrinc name) (denied ∷ when (is_none found) UnknownPrincipal ∷ []) (λ s call given.
      show_tests s g.client.now given.called.clock g.random.now (access_of g) name
      (princ_named (printed name) s.princs) own refl (sym own_is)
      ∙ both _ _ _ _ (sym denied_is)
      (both _ _ _ _ (absent_so g (command.GetPrinc name) name text found text_is found_is s call given) refl))

  pub shows : (p : Princ) (made : PrincShown) → denied ≡ None → found ≡ Some p → made ≡ record_shown p
      → IsJudged g (command.GetPrinc name) (Ok (Answer (reply.Shown made)))
  unfolding entry_of reading_of target
  shows p made none is made_is =
      answered g (command.GetPrinc name) (denied ∷ when (is_none found) UnknownPrincipal ∷ []) show_comes None
      (none_missing denied found p UnknownPrincipal none is) (reply.Shown made) refl
      (λ s call given.
      let other = beside g (command.GetPrinc name) name text found text_is found_is s call given p is in (
        refl,
        rw other.there
            (ap reply.Shown (made_is ∙ shown_alike s.masters given.seen.shows.history p other.other other.beside)),
      ))

-- ---- getstrs

module _ (g : Given) (name : NameParts) (text : List ℕ) (found : Option Princ) (denied : Option Refusal)
    (text_is : text ≡ printed name)
    (found_is : found ≡ record_named text g.rows.now.princs)
    (denied_is : denied ≡ denial_of (access_of g) g.client.now (asking inquiring name ∷ [])) where
  pub strings_comes : ComesTo g (command.GetStrings name) (denied ∷ when (is_none found) UnknownPrincipal ∷ [])
  strings_comes =
      comes g (command.GetStrings name) (denied ∷ when (is_none found) UnknownPrincipal ∷ []) (λ s call given.
      strings_tests s g.client.now given.called.clock g.random.now (access_of g) name
      (princ_named (printed name) s.princs) refl
      ∙ both _ _ _ _ (sym denied_is)
      (both _ _ _ _ (absent_so g (command.GetStrings name) name text found text_is found_is s call given) refl))

  pub shows_strings : (p : Princ) (made : List StringAttribute) → denied ≡ None → found ≡ Some p → made ≡ p.strings
      → IsJudged g (command.GetStrings name) (Ok (Answer (reply.Strings made)))
  unfolding entry_of reading_of target
  shows_strings p made none is made_is =
      answered g (command.GetStrings name) (denied ∷ when (is_none found) UnknownPrincipal ∷ []) strings_comes None
      (none_missing denied found p UnknownPrincipal none is) (reply.Strings made) refl
      (λ s call given.
      let other = beside g (command.GetStrings name) name text found text_is found_is s call given p is in
      (refl, rw other.there (ap reply.Strings (made_is ∙ ap (λ (h : Princ). h.strings) other.beside.under.fields))))

-- ---- extract

module _ (g : Given) (name : NameParts) (text : List ℕ) (found : Option Princ) (denied protected : Option Refusal)
    (text_is : text ≡ printed name)
    (found_is : found ≡ record_named text g.rows.now.princs)
    (denied_is : denied ≡ denial_of (access_of g) g.client.now (asking extracting name ∷ []))
    (protected_is : protected ≡ when (list_any (is_protected g.realm.now) (name ∷ [])) Protected) where
  abbrev pub extract_causes : List (Option Refusal)
  extract_causes = denied ∷ protected ∷ when (is_none found) UnknownPrincipal
      ∷ when (is_some (access_of g) && is_locked_record found) LockedDown ∷ []

  pub extract_comes : ComesTo g (command.Extract name) extract_causes
  extract_comes = comes g (command.Extract name) extract_causes (λ s call given.
      let other = princ_named (printed name) s.princs in
      extract_tests s g.client.now given.called.clock g.random.now (access_of g) name other refl
      ∙ both _ _ _ _ (sym denied_is)
      (both _ _ _ _
      (ap (λ r. when (list_any (is_protected r) (name ∷ [])) Protected) given.seen.realm_is ∙ sym protected_is)
      (both _ _ _ _ (absent_so g (command.Extract name) name text found text_is found_is s call given)
      (both _ _ _ _ (ap (λ b. when (is_some (access_of g) && b) LockedDown)
      (sym (locked_alike s.masters given.seen.shows.history found other
      (sides g (command.Extract name) name text found text_is found_is s call given)))) refl))))

  pub extract_early : (why : Refusal)
      → first (first (denied ∷ protected ∷ []) ∷ when (is_none found) UnknownPrincipal ∷ []) ≡ Some why
      → IsJudged g (command.Extract name) (Err why)
  extract_early why e =
      refused g (command.Extract name) extract_causes extract_comes (Some why)
      (sym (early (denied ∷ protected ∷ when (is_none found) UnknownPrincipal ∷ [])
      (when (is_some (access_of g) && is_locked_record found) LockedDown ∷ []) why
      (sym (nested (denied ∷ protected ∷ []) (when (is_none found) UnknownPrincipal ∷ [])) ∙ e))) why refl

  left_over : (p : Princ) → first (denied ∷ protected ∷ []) ≡ None → found ≡ Some p
      → first extract_causes ≡ first (when (is_some (access_of g) && is_locked_record found) LockedDown ∷ [])
  unfolding first
  left_over p none is =
      later (denied ∷ protected ∷ []) (when (is_none found) UnknownPrincipal
      ∷ when (is_some (access_of g) && is_locked_record found) LockedDown ∷ []) none ∙ rw is refl

  pub extract_locked : (p : Princ) (why : Refusal) → first (denied ∷ protected ∷ []) ≡ None
      → found ≡ Some p → when (is_some (access_of g) && is_locked_record (Some p)) LockedDown ≡ Some why
      → IsJudged g (command.Extract name) (Err why)
  unfolding first
  extract_locked p why none is locked =
      refused g (command.Extract name) extract_causes extract_comes (Some why)
      (sym (left_over p none is ∙ rw (is, locked) refl)) why refl

  pub extracts_keys : (p : Princ) (made : List Extract) → first (denied ∷ protected ∷ []) ≡ None → found ≡ Some p
      → when (is_some (access_of g) && is_locked_record (Some p)) LockedDown ≡ None
      → ((master : Key) (plain : List PlainItem)
      → master_of g.masters.now p.mkvno ≡ Some master → AllZip (ShowsItem master) p.keys plain → made ≡ extracts plain)
      → IsJudged g (command.Extract name) (Ok (Answer (reply.Extracted made)))
  unfolding entry_of reading_of target first
  extracts_keys p made none is unlocked made_is =
      answered g (command.Extract name) extract_causes extract_comes None
      (sym (left_over p none is ∙ rw (is, unlocked) refl)) (reply.Extracted made) refl
      (λ s call given.
      let other = beside g (command.Extract name) name text found text_is found_is s call given p is in
      let named : master_of g.masters.now p.mkvno ≡ Some other.beside.master =
      ap (λ (ms : List Master). master_of ms p.mkvno) (sym given.seen.masters_are) ∙ other.beside.named in (
        refl,
        rw other.there
            (ap reply.Extracted (made_is other.beside.master other.other.keys named other.beside.under.keys)),
      ))

-- ---- listprincs and getprivs

names_alike : (masters : List Master) (history : Key) (princs : List Princ) (plain : List PlainPrinc)
    → AllZip (ShowsPrinc masters history) princs plain → princ_keys princs ≡ princ_names plain
names_alike masters history [] [] f = refl
names_alike masters history [] (q ∷ plain) f = absurd f
names_alike masters history (p ∷ princs) [] f = absurd f
names_alike masters history (p ∷ princs) (q ∷ plain) f =
    ap (λ (n : List ℕ). n ∷ princ_keys princs) (same_names p q f.0)
    ∙ ap (λ (ns : List (List ℕ)). q.name ∷ ns) (names_alike masters history princs plain f.1)

pub list_comes : (g : Given) (glob : Option (List ℕ)) (denied : Option Refusal)
    → denied ≡ denial_of (access_of g) g.client.now (asking_alone listing ∷ [])
    → ComesTo g (command.ListPrincs glob) (denied ∷ [])
list_comes g glob denied denied_is = comes g (command.ListPrincs glob) (denied ∷ []) (λ s call given.
    list_tests s g.client.now given.called.clock g.random.now (access_of g) glob ∙ both _ _ _ _ (sym denied_is) refl)

pub lists : (g : Given) (glob : Option (List ℕ)) (denied : Option Refusal) (names : List (List ℕ))
    → denied ≡ denial_of (access_of g) g.client.now (asking_alone listing ∷ []) → denied ≡ None
    → names ≡ names_in glob (princ_keys g.rows.now.princs)
    → IsJudged g (command.ListPrincs glob) (Ok (Answer (reply.Listed names)))
unfolding entry_of reading_of first
lists g glob denied names denied_is none names_are =
    answered g (command.ListPrincs glob) (denied ∷ []) (list_comes g glob denied denied_is) None (rw none refl)
    (reply.Listed names) refl
    (λ s call given. (
      refl,
      ap reply.Listed (names_are ∙ ap (names_in glob)
          (names_alike s.masters given.seen.shows.history g.rows.now.princs s.princs given.seen.shows.princs)),
    ))

pub list_refused : (g : Given) (cmd : Command) (denied : Option Refusal) (why : Refusal) → ComesTo g cmd (denied ∷ [])
    → denied ≡ Some why → IsJudged g cmd (Err why)
unfolding first
list_refused g cmd denied why to is = refused g cmd (denied ∷ []) to (Some why) (rw is refl) why refl

pub tells_privileges : (g : Given) (letters : List ℕ) → letters ≡ privileges_by g.client.now (access_of g)
    → IsJudged g command.GetPrivs (Ok (Answer (reply.Privileges letters)))
unfolding entry_of reading_of first privileges
tells_privileges g letters is =
    answered g command.GetPrivs [] (comes g command.GetPrivs []
    (λ s call given. privileges_tests s g.client.now given.called.clock g.random.now (access_of g))) None refl
    (reply.Privileges letters) refl
    (λ s call given. (refl, ap reply.Privileges is))
