use Rattle.world_laws.proofs.Beginning.{asked_begins, last_begins, load_begins, long_begins, older_begins, sized_begins}
use Rattle.world_laws.proofs.laws.causes_begin_the_log_anew.Goals as goal
use Rattle.kdb_histories.specs.Sites.{state_of}

pub returns-clause-last : goal.returns-clause-last
returns-clause-last c = λ ask answer made done op up said w new e.
    last_begins ask op e.at.last.place (state_of w) answer made e.makes

pub returns-clause-long : goal.returns-clause-long
returns-clause-long c = λ ask answer made done op up said w new e.
    long_begins ask op e.at.last.place (state_of w) answer made e.makes

pub returns-clause-asked : goal.returns-clause-asked
returns-clause-asked c = λ clock answer made done up said w new e.
    asked_begins clock e.at.last.place made e.makes

pub returns-clause-loaded : goal.returns-clause-loaded
returns-clause-loaded c = λ rows clock answer made done up said w new e.
    load_begins rows clock e.at.last.place made e.makes

pub returns-clause-older : goal.returns-clause-older
returns-clause-older c = λ size room clock answer made done up said w new e.
    older_begins size room clock e.at.last.place made e.makes

pub returns-clause-sized : goal.returns-clause-sized
returns-clause-sized c = λ size room clock answer made done up said w new e.
    sized_begins size room clock e.at.last.place made e.makes
