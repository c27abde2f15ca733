-- What a call of one table leaves of the others.
use Rattle.std.specs.Prelude.{◌≡◌, ◌⊎◌}
use Rattle.table_cases.specs.declared.cases.Tables.{Tables}

-- all tables but one at the most are as they were
abbrev pub ChangesOne : Tables → Tables → Type 0
ChangesOne old new =
    (new ≡ record old { pool = new.pool })
    ⊎ ((new ≡ record old { logins = new.logins })
    ⊎ ((new ≡ record old { voices = new.voices })
    ⊎ ((new ≡ record old { registry = new.registry })
    ⊎ ((new ≡ record old { zoning = new.zoning })
    ⊎ (new ≡ record old { watched = new.watched })))))
