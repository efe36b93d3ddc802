-- Names as they are told of the rows and of the state that they show.
use Rattle.std.proofs.Common.{◌≡◌, List, [], ◌∷◌, ℕ, Option, refl, ap, ◌∙◌}
use Rattle.std.specs.List.{AllZip}
use Rattle.kdb_base.specs.Key.{Key}
use Rattle.kdb_base.specs.declared.versions.Master.{Master}
use Rattle.kdb_plain.specs.Lists.{princ_names}
use Rattle.kdb_plain.specs.declared.princs.PlainPrinc.{PlainPrinc}
use Rattle.kdb_plain.specs.declared.states.State.{State}
use Rattle.primary_answers.specs.Listing.{names_told}
use Rattle.primary_core.specs.Opened.{HasState, Opened, place_of}
use Rattle.princ_record.specs.declared.princs.Princ.{Princ}
use Rattle.princ_rows.specs.Rows.{princ_keys}
use Rattle.row_keys.proofs.Names.{same_name}
use Rattle.row_keys.specs.Shows.{ShowsPrinc}

names_alike : (masters : List Master) (history : Key) (princs : List Princ) (plain : List PlainPrinc)
    → AllZip (ShowsPrinc masters history) princs plain
    → princ_keys princs ≡ princ_names plain
names_alike masters history [] [] f = refl
names_alike masters history [] (q ∷ plain) f = absurd f
names_alike masters history (p ∷ princs) [] f = absurd f
names_alike masters history (p ∷ princs) (q ∷ plain) f =
    ap (λ (n : List ℕ). n ∷ princ_keys princs) (same_name p q f.0)
    ∙ ap (λ (ns : List (List ℕ)). q.name ∷ ns) (names_alike masters history princs plain f.1)

pub told_alike : (o : Opened) (s : State) (glob : Option (List ℕ)) → HasState o s
    → names_told glob (princ_keys (place_of o).rows.princs) ≡ names_told glob (princ_names s.princs)
told_alike o s glob has =
    ap (names_told glob)
    (names_alike s.masters has.shows.shows.history (place_of o).rows.princs s.princs has.shows.shows.princs)
