-- Inner: a small tree, for the tests: a file, a directory, and an empty file in it.
use Rattle.std.specs.Prelude.{List, [], ◌∷◌, Some, None, codes}
use Rattle.neph_p9srv.specs.declared.served.FileItem.{FileItem}

abbrev pub example : List FileItem
example =
    record { path = codes "a" ∷ []; body = Some (codes "hello") }
    ∷ record { path = codes "d" ∷ []; body = None }
    ∷ record { path = codes "d" ∷ codes "f" ∷ []; body = Some [] }
    ∷ []
