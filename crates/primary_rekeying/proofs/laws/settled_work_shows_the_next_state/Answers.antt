use Rattle.primary_rekeying.proofs.Next.{next_state}
use Rattle.primary_rekeying.proofs.laws.settled_work_shows_the_next_state.Goals as goal

pub returns : goal.returns
returns c o s after name clock work made has rows moment is named e =
    next_state (record {
      valid = record { later = c.valid_later.ensures.later; point = c.valid_later.ensures.point };
      row = c.records_have_their_lengths.ensures.row;
    })
    c.blobs_hold_one_key.ensures c.principals_have_their_own_spellings.ensures o s has rows clock moment work is name
    named after made e
