use Rattle.java_types.proofs.TypedLemmas.{typed_of}
use Rattle.java_types.proofs.file.resolve_in.Goals as goal

pub returns-clause-typed : goal.returns-clause-typed
returns-clause-typed c = λ tokens spelled is facts clear.
    typed_of c.args.tree.now (λ table none. c.programs_are_typed.ensures c.args.tree.now tokens spelled table clear none)
    c.args.table.now is facts c.resolve_file.result c.resolve_file.ensures.program c.resolve_file.ensures.clear
