-- The fields of a directory come back from its entries.
use Rattle.std.specs.Prelude.{◌≡◌, ◌-◌, ◌++◌, length, take, replicate}
use Rattle.std.proofs.Common.{sym, ap, ◌∙◌, arith}
use Rattle.std.proofs.lemmas.List.{length-take-le, take-append-drop}
use Rattle.store.specs.declared.directory.Directory.TheInside.{Inside}
use Rattle.store.specs.Entries.{blank}
use Rattle.store.specs.Directories.{IsDirectory}

pub restored_count : (d : Inside) → IsDirectory d → length (take d.count d.entries) ≡ d.count
restored_count d h = length-take-le d.count d.entries (omega (arith, h.few, h.long))

pub restored_entries : (d : Inside) → IsDirectory d → take d.count d.entries ++ replicate (16 - length (take d.count d.entries)) blank ≡ d.entries
restored_entries d h =
    ap (λ n. take d.count d.entries ++ replicate (16 - n) blank) (restored_count d h)
    ∙ ap (λ t. take d.count d.entries ++ t) (sym h.rest)
    ∙ take-append-drop d.count d.entries
