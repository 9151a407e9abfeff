mod Coming
mod Lists
mod Taking
mod Working
