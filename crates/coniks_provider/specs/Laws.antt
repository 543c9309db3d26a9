-- What a refused line may leave.
use Rattle.std.specs.Prelude.{◌≡◌, ◌≢◌, ◌⊎◌}
use Rattle.coniks_provider.specs.Turns.{ProviderState, nothing, restoring, root_of_bindings, serving}

-- a directory stays as it is, its pending update included; a restore stays as it is, or has ended, since its root isn't the entry's
abbrev pub IsLeftBy : ProviderState → ProviderState → Type 0
IsLeftBy nothing new = new ≡ nothing
IsLeftBy (restoring r) new = (new ≡ restoring r) ⊎ ((new ≡ nothing) × (r.entry.body.root.0 ≢ root_of_bindings r))
IsLeftBy (serving o) new = new ≡ serving o
