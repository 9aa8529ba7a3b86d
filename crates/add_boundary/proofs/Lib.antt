mod Laws
mod Added
