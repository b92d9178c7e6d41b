-- What the contracts of library `frames` cite. No promise of a public call of `types` or `values` stands on it.
pub mod inside
