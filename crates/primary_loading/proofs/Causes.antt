-- The causes for which a dump is refused exclude each other, and none of them holds where it is taken.
use Rattle.std.proofs.Common.{◌≡◌, ℕ, zero, suc, ◌<◌, List, [], ◌∷◌, get_or, length, take}
use Rattle.std.proofs.Common.{Option, Some, None, refl, sym, ap, subst, ◌∙◌, inl, inr, arith}
use Rattle.std.specs.Prelude.{Err}
use Rattle.std.specs.List.{AllByRecursion}
use Rattle.std.proofs.lemmas.List.Elements.{recursion_from_All}
use Rattle.kdb_base.specs.declared.outcomes.Halt.{Halt}
use Rattle.kdb_base.specs.declared.outcomes.Halt.TheVariants.{MemoryOut}
use Rattle.kdb_base.specs.declared.outcomes.Refusal.{Refusal}
use Rattle.kdb_base.specs.declared.outcomes.Refusal.TheVariants.{DumpBad}
use Rattle.kdb_base.specs.declared.outcomes.Stop.{Stop}
use Rattle.kdb_base.specs.declared.outcomes.Stop.TheVariants as stop
use Rattle.kdb_base.specs.declared.versions.Master.{Master}
use Rattle.primary_loading.specs.Judging.{AreTaken, AreUntrue, HasKey, IsForeignCause}
use Rattle.primary_loading.specs.Judging.{IsNoStash, IsRowsCause, IsUnsound}
use Rattle.primary_loading.specs.Lines.{princ_place}
use Rattle.princ_record.specs.declared.princs.Princ.{Princ}
use Rattle.princ_rows.specs.Rows.{RowLists}
use Rattle.row_keys.specs.Sound.{AreSound, IsFirstUnsound, IsSound, Judged, judged}
use Rattle.stash_file.proofs.Uniques.{not_bad}
use Rattle.stash_file.specs.declared.keys.StashKey.{StashKey}
use Rattle.stash_opening.proofs.Causes.{first_is_unsound, lack_is_unsound, one_keys, one_stash_cause}
use Rattle.stash_opening.specs.Answers.{Gives, Refuses}
use Rattle.stash_opening.specs.Finding.{HasKeys, IsBroken, IsStashCause, StashOpens, own_record}

-- ---- a stash, whatever the dump is

as_stash : (stash : Option (List ℕ)) (file : ℕ) (entry : Option Princ) (why : Refusal) → IsNoStash stash file why
    → IsStashCause stash file entry why
as_stash stash file entry why (inl d) = inl d
as_stash stash file entry why (inr l) = inr (record { keys = l.keys; spelled = l.spelled; cause = inl l.lacks })

one_no_stash : (stash : Option (List ℕ)) (file : ℕ) (a b : Refusal) → IsNoStash stash file a
    → IsNoStash stash file b → a ≡ b
one_no_stash stash file a b f g =
    one_stash_cause stash file None a b (as_stash stash file None a f) (as_stash stash file None b g)

read_whole : (stash : Option (List ℕ)) (keys : List StashKey) (place : ℕ) → HasKeys stash keys
    → IsBroken stash place → ⊥
read_whole None keys place h bad = bad
read_whole (Some text) keys place h bad = not_bad text keys place h bad

has_stash : (stash : Option (List ℕ)) (file : ℕ) (why : Refusal) → HasKey stash → IsNoStash stash file why → ⊥
has_stash stash file why h (inl d) = read_whole stash h.keys d.place h.spelled d.broken
has_stash stash file why h (inr l) = h.some (one_keys stash h.keys l.keys h.spelled l.spelled ∙ l.lacks.none)

pub one_foreign : (stash : Option (List ℕ)) (file : ℕ) (a b : Refusal) → IsForeignCause stash file a
    → IsForeignCause stash file b → a ≡ b
one_foreign stash file a b (inl f) (inl g) = one_no_stash stash file a b f g
one_foreign stash file a b (inl f) (inr g) = absurd (has_stash stash file a g.some f)
one_foreign stash file a b (inr f) (inl g) = absurd (has_stash stash file b f.some g)
one_foreign stash file a b (inr f) (inr g) = f.why_is ∙ sym g.why_is

-- ---- rows that are not sound

fault_before : (F : Princ → Type 0) (xs : List Princ) (at n : ℕ) → at < length xs → at < n
    → ((d : Princ) → F (get_or xs at d) → ⊥)
    → AllByRecursion F (take n xs) → ⊥
fault_before F [] at n lt below never all = absurd (omega arith)
fault_before F (x ∷ xs) at zero lt below never all = absurd (omega arith)
fault_before F (x ∷ xs) zero (suc n) lt below never all = never x all.0
fault_before F (x ∷ xs) (suc at) (suc n) lt below never all =
    fault_before F xs at n (omega arith) (omega arith) never all.1

fault_in : (F : Princ → Type 0) (xs : List Princ) (at : ℕ) → at < length xs → ((d : Princ) → F (get_or xs at d) → ⊥)
    → AllByRecursion F xs → ⊥
fault_in F [] at lt never all = absurd (omega arith)
fault_in F (x ∷ xs) zero lt never all = never x all.0
fault_in F (x ∷ xs) (suc at) lt never all = fault_in F xs at (omega arith) never all.1

not_earlier : (j : Judged) (rows : RowLists) (a b : ℕ) → IsFirstUnsound j rows a → IsFirstUnsound j rows b → a < b → ⊥
not_earlier j rows a b f g lt =
    fault_before (IsSound j rows) rows.princs a b f.in_range lt f.here
    (recursion_from_All (IsSound j rows) (take b rows.princs) g.before)

one_row : (j : Judged) (rows : RowLists) (a b : ℕ) → IsFirstUnsound j rows a → IsFirstUnsound j rows b → a ≡ b
one_row j rows a b f g = omega (arith, not_earlier j rows a b f g, not_earlier j rows b a g f)

pub one_unsound : (j : Judged) (rows : RowLists) (a b : Refusal) → IsUnsound j rows a → IsUnsound j rows b → a ≡ b
one_unsound j rows a b (inl f) (inl g) =
    f.why_is ∙ ap (λ (n : ℕ). DumpBad (princ_place n)) (one_row j rows f.at g.at f.first g.first) ∙ sym g.why_is
one_unsound j rows a b (inl f) (inr g) =
    absurd (fault_in (IsSound j rows) rows.princs f.at f.first.in_range f.first.here
    (recursion_from_All (IsSound j rows) rows.princs g.lacks.each))
one_unsound j rows a b (inr f) (inl g) =
    absurd (fault_in (IsSound j rows) rows.princs g.at g.first.in_range g.first.here
    (recursion_from_All (IsSound j rows) rows.princs f.lacks.each))
one_unsound j rows a b (inr f) (inr g) = f.why_is ∙ sym g.why_is

sound_or_not : (j : Judged) (rows : RowLists) (why : Refusal) → AreSound j rows → IsUnsound j rows why → ⊥
sound_or_not j rows why sound (inl f) = first_is_unsound j rows f.at f.first sound
sound_or_not j rows why sound (inr f) = lack_is_unsound j rows f.lacks sound

-- ---- rows of the own realm, where the stash opens these master keys

module _ (stash : Option (List ℕ)) (file : ℕ) (realm : List ℕ) (secs : ℕ) (rows : RowLists) (found : List Master)
    (only : (masters : List Master) → StashOpens stash (own_record realm rows) masters → found ≡ masters)
    (never : (why : Refusal) → IsStashCause stash file (own_record realm rows) why → ⊥) where
  sound_under : (masters : List Master) → AreTaken stash realm secs rows masters
      → AreSound (judged found realm secs) rows
  sound_under masters t =
      subst (λ (ms : List Master). AreSound (judged ms realm secs) rows) (sym (only masters t.opened)) t.sound

  unsound_under : (why : Refusal) → AreUntrue stash realm secs rows why → IsUnsound (judged found realm secs) rows why
  unsound_under why u =
      subst (λ (ms : List Master). IsUnsound (judged ms realm secs) rows why) (sym (only u.masters u.opened)) u.unsound

  pub sound_refuses : (why : Refusal) → AreSound (judged found realm secs) rows
      → IsRowsCause stash file realm secs rows why → ⊥
  sound_refuses why sound (inl cause) = never why cause
  sound_refuses why sound (inr u) = sound_or_not (judged found realm secs) rows why sound (unsound_under why u)

  module _ (why_not : Stop)
      (refused : (why : Refusal) → why_not ≡ stop.Refused why → IsUnsound (judged found realm secs) rows why)
      (halted : (halt : Halt) → why_not ≡ stop.Halt halt → halt ≡ MemoryOut) where
    pub unsound_gives : (masters : List Master) → AreTaken stash realm secs rows masters → Gives (Err why_not) masters
    unsound_gives masters t = on why_not refused halted
      where
        on : (s : Stop) → ((why : Refusal) → s ≡ stop.Refused why → IsUnsound (judged found realm secs) rows why)
            → ((halt : Halt) → s ≡ stop.Halt halt → halt ≡ MemoryOut) → Gives (Err s) masters
        on (stop.Refused why) r h =
            absurd (sound_or_not (judged found realm secs) rows why (sound_under masters t) (r why refl))
        on (stop.Halt halt) r h = h halt refl

    pub unsound_refuses : (why : Refusal) → IsRowsCause stash file realm secs rows why
        → Refuses {A = List Master} (Err why_not) why
    unsound_refuses why cause = on why_not refused halted cause
      where
        on : (s : Stop) → ((w : Refusal) → s ≡ stop.Refused w → IsUnsound (judged found realm secs) rows w)
            → ((halt : Halt) → s ≡ stop.Halt halt → halt ≡ MemoryOut) → IsRowsCause stash file realm secs rows why
            → Refuses {A = List Master} (Err s) why
        on s r h (inl known) = absurd (never why known)
        on (stop.Refused other) r h (inr u) =
            one_unsound (judged found realm secs) rows other why (r other refl) (unsound_under why u)
        on (stop.Halt halt) r h (inr u) = h halt refl
